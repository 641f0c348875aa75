-- What is read of a version 1 file, and what is made of it.
use Rattle.std.proofs.Common.{◌≡◌, ℕ, zero, suc, ◌+◌, ◌*◌, ◌≤◌, List, length, length-append, refl, sym, ◌∙◌, ap, subst, arith}
use Rattle.std.specs.Prelude.{Bool, true, false, ◌++◌, replicate}
use Rattle.journal_model.specs.Records.{Label, Form, total, slots_of, end_of, old_form, new_form, behind, form_of, is_journal}
use Rattle.journal_steps.specs.Move.{IsOld}
use Rattle.journal_steps.specs.Read.{IsRead}
use Rattle.journal_steps.specs.Tables.{count_true}
use Rattle.journal_steps.proofs.Migrating.{old_form_of}
use Rattle.journal_steps.proofs.Wider.{balance_wider}
use Rattle.flash_journal.specs.declared.layout.Version.TheVariants.{Old}
use Rattle.flash_journal.specs.declared.parts.Parts.{Parts}
use Rattle.flash_journal.specs.declared.verdict.Reading.{Reading}
use Rattle.flash_journal.specs.Layouts.{layout_form}
use Rattle.flash_journal.specs.Parts.{AreMoved}
use Rattle.flash_journal.specs.Seen.{IsReading}
use Rattle.flash_journal.proofs.Appends.{journal_long}
use Rattle.flash_journal.proofs.Versions.{seen_old}

unset_size : (n : ℕ) → length (replicate n false) ≡ n
unset_size zero = refl
unset_size (suc n) = ap (λ (k : ℕ). suc k) (unset_size n)

module _ (P : Label) (front : List ℕ) (r : Reading) (journal : is_journal P front ≡ true) (reading : IsReading P front r) (old : r.version ≡ Old) where
  pub is_old : IsOld front
  is_old = let seen = seen_old front r.version reading.version old in record { version = seen.0; stays = seen.1 }

  pub first : form_of P front ≡ old_form P
  first = old_form_of P front is_old

  pub long_front : behind P ≤ length front
  long_front = subst (λ (F : Form). end_of F ≤ length front) first (journal_long P front journal)

  pub read_old : IsRead (form_of P front) front r.tables.gates.items r.tables.found.items
  read_old = reading.slots.read

  module _ (parts : Parts) (made : AreMoved P front r.tables parts) where
    wide : (xs ys : List Bool) → length xs ≡ slots_of (form_of P front) → ys ≡ xs ++ replicate (total P.segments) false → length ys ≡ slots_of (layout_form parts.layout)
    wide xs ys size is = ap length is ∙ length-append xs (replicate (total P.segments) false) ∙ omega (arith, size, unset_size (total P.segments), ap slots_of first, ap slots_of made.form)

    pub gates_fit : length parts.tables.gates.items ≡ slots_of (layout_form parts.layout)
    gates_fit = wide r.tables.gates.items parts.tables.gates.items read_old.gates_size made.gates

    pub found_fit : length parts.tables.found.items ≡ slots_of (layout_form parts.layout)
    found_fit = wide r.tables.found.items parts.tables.found.items read_old.found_size made.found

    pub balanced : count_true parts.tables.gates.items ≡ count_true parts.tables.found.items
    balanced = ap count_true made.gates ∙ balance_wider r.tables.gates.items r.tables.found.items (total P.segments) read_old.balance ∙ sym (ap count_true made.found)
