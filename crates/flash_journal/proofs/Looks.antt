-- From what the tests of the first bytes find to what a look answers.
use Rattle.std.proofs.Common.{◌≡◌, inl, inr, ℕ, ◌+◌, ◌*◌, ◌<◌, ◌≤◌, Bool, true, false, refl, length, List, [], get_or, drop, sym, ◌∙◌, ap, subst, arith, Result, Ok, Err}
use Rattle.std.specs.Prelude.{◌==◌, ◌&&◌, slice_index, slice_range, if◌then◌else◌}
use Rattle.std.proofs.lemmas.Bool.{and_left, and_from, both_ways, eq-eqb, le-leb, lt-leb}
use Rattle.std.proofs.lemmas.List.{get_or-take, get_or-drop}
use Rattle.flash_plan.specs.declared.outcome.Entry.{Entry}
use Rattle.journal_model.specs.Records.{Label, Form, form_of, end_of, stands_at, is_fresh, is_journal, has, records, counts, has_second, is_filled, is_formed, is_distinct, is_ordered, is_standing}
use Rattle.journal_steps.specs.Read.{IsFront, limit_of}
use Rattle.journal_steps.specs.Tested.{tested, NotMade, NoJournal, OfOtherPlan, OfThisPlan}
use Rattle.journal_steps.proofs.Slots.{below_from}
use Rattle.journal_steps.proofs.Same.{stands_same}
use Rattle.journal_steps.proofs.Made.{fresh_no_journal}
use Rattle.journal_steps.proofs.Front.{front_fresh, front_headed, front_digest, front_standing, front_records}
use Rattle.journal_steps.proofs.Tests.{tested_fresh, tested_headless, tested_other, tested_fallen, tested_journal}
use Rattle.flash_journal.specs.Seen.{HasSlots, IsNotJournal, IsOtherPlan}
use Rattle.flash_journal.specs.Look.{Opens, Refuses, Lists, IsLookAnswer}
use Rattle.flash_journal.specs.declared.looking.OpenFault.{OpenFault}
use Rattle.flash_journal.specs.declared.looking.OpenFault.TheVariants.{NotJournal, OtherPlan, DiskFault, NoMemory}
use Rattle.flash_journal.specs.declared.tables.Tables.{Tables}

-- ------ the slots
is_right : (a b : Bool) → b ≡ false → (a && b) ≡ false
is_right true b is = is
is_right false b is = refl

module _ (P : Label) (bytes : List ℕ) where
  abbrev F : Form
  F = form_of P bytes

  not_filled : is_filled F bytes ≡ false → is_standing P bytes ≡ false
  not_filled is = is_right _ _ is

  pub standing_short : length bytes < end_of F → is_standing P bytes ≡ false
  standing_short less = not_filled (and_left _ _ (and_left _ _ (and_left _ _ (lt-leb (end_of F) (length bytes) less))))

  pub standing_unordered : is_ordered F bytes ≡ false → is_standing P bytes ≡ false
  standing_unordered is = not_filled (is_right _ _ is)

  pub standing_all : counts P bytes ≡ true → has_second P bytes ≡ true → end_of F ≤ length bytes → is_formed F bytes ≡ true → is_distinct F bytes ≡ true → is_ordered F bytes ≡ true → is_standing P bytes ≡ true
  standing_all counted second long formed distinct ordered = and_from _ _ (and_from _ _ counted second) (and_from _ _ (and_from _ _ (and_from _ _ (le-leb (end_of F) (length bytes) long) formed) distinct) ordered)

module _ (P : Label) (bytes : List ℕ) where
  -- no entry of a fresh file
  pub lists_none : is_fresh bytes ≡ true → Lists P bytes []
  lists_none fresh = record {
    opens = inl (tested_fresh P bytes fresh);
    entries = λ e. sym (and_left _ _ (fresh_no_journal P bytes fresh));
    once = tt;
  }

  -- the entries that were read
  pub lists_read : (t : Tables) → is_journal P bytes ≡ true → HasSlots (form_of P bytes) bytes t → Lists P bytes t.entries.items
  lists_read t journal slots = record {
    opens = inr (tested_journal P bytes journal);
    entries = λ e. slots.listed.listed e ∙ sym (slots.read.entry e) ∙ (λ i. sym journal i && has (form_of P bytes) bytes e);
    once = slots.listed.once;
  }

  pub refuses_form : IsNotJournal P bytes → Refuses P bytes NotJournal
  refuses_form (fresh, inl headless) = tested_headless P bytes fresh headless
  refuses_form (fresh, inr (digest, standing)) = tested_fallen P bytes fresh digest standing

  pub refuses_plan : (said : List ℕ) → IsOtherPlan P bytes said → Refuses P bytes (OtherPlan said)
  refuses_plan said other = (tested_other P bytes other.0 other.1 other.2, other.3)

  -- a digest that the header says and that is not the plan's
  pub says_other : (said : List ℕ) → IsOtherPlan P bytes said → said ≡ P.digest → ⊥
  says_other said other is = both_ways _ other.2 (subst (λ (xs : List ℕ). stands_at bytes 16 32 xs ≡ true) is other.3)

-- what holds of the first bytes holds of the file
module _ (P : Label) (image front : List ℕ) (is : IsFront (limit_of P) image front) where
  pub tested_front : tested P front ≡ tested P image
  tested_front = λ i.
      if front_fresh P image front is i then NotMade
      else (if front_headed P image front is i
      then (if front_digest P image front is i then (if front_standing P image front is i then OfThisPlan else NoJournal) else OfOtherPlan)
      else NoJournal)

  records_front : (e : Entry) → records P front e ≡ records P image e
  records_front e = front_records P image front is e

  pub opens_front : Opens P front → Opens P image
  opens_front (inl made) = inl (sym tested_front ∙ made)
  opens_front (inr plan) = inr (sym tested_front ∙ plan)

  pub refuses_front : (fault : OpenFault) → Refuses P front fault → Refuses P image fault
  refuses_front NotJournal r = sym tested_front ∙ r
  refuses_front (OtherPlan said) r = (
    sym tested_front ∙ r.0,
    sym (stands_same image front 16 32 said (λ t lt. is.same (16 + t) (omega (arith, lt)))) ∙ r.1,
  )
  refuses_front DiskFault r = tt
  refuses_front NoMemory r = tt

  pub answer_front : (r : Result (List Entry) OpenFault) → IsLookAnswer P front r → IsLookAnswer P image r
  answer_front (Ok es) lists = record {
    opens = opens_front lists.opens;
    entries = λ e. lists.entries e ∙ records_front e;
    once = lists.once;
  }
  answer_front (Err fault) r = refuses_front fault r

-- bytes stand where they were taken
pub stands_taken : (bytes said : List ℕ) → said ≡ slice_range bytes 16 48 → stands_at bytes 16 32 said ≡ true
stands_taken bytes said is = below_from 32 (λ i. slice_index bytes (16 + i) == slice_index said i) (λ t lt. eq-eqb _ _
    (sym (get_or-drop 16 bytes t 0) ∙ sym (get_or-take 32 (drop 16 bytes) t 0 lt) ∙ sym (ap (λ (xs : List ℕ). get_or xs t 0) is)))
