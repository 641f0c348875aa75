use Rattle.std.proofs.Common.{◌≡◌, ◌<◌, ◌+◌, ◌∙◌, true, false, ℕ, length, get_or, set, arith, sym, ap, subst, length-set}
use Rattle.journal_steps.specs.Tables.{place_of}
use Rattle.journal_steps.proofs.Tables.{count_set, found_at}
use Rattle.flash_journal.specs.Kept.{journal_form}
use Rattle.flash_journal.specs.Layouts.{layout_form}
use Rattle.flash_journal.proofs.Notes.{form_is}
use Rattle.flash_journal.proofs.Versions.{placed_some}
use Rattle.flash_journal.proofs.journal.Journal.note.Goals as goal

pub invariant_of-self : goal.invariant_of-self
invariant_of-self c =
    let j = c.args.self.now in
    let e = c.args.entry in
    let place = c.in-Some.place in
    let at : place ≡ place_of (journal_form j) e = (placed_some (layout_form j.layout) e place c.in-Some.ensures.place).place ∙ (λ i. place_of (form_is j i) e) in
    let lacks : get_or j.found.items place false ≡ false = ap (λ (k : ℕ). get_or j.found.items k false) at ∙ sym (found_at (journal_form j) j.found.items e c.requires.named) ∙ c.requires.fresh in
    let below : place < length j.found.items = omega (arith, c.in-Some.ensures.within, j.entries, j.layout.counts) in
    record {
      slots = length-set j.gates.items c.args.slot true ∙ j.slots;
      entries = length-set j.found.items place true ∙ j.entries;
      balance = count_set j.gates.items c.args.slot c.requires.below c.requires.closed ∙ ap (λ (n : ℕ). n + 1) j.balance ∙ sym (count_set j.found.items place below lacks);
      whole = j.whole;
    }
