-- What `status` shows is what the bytes of the journal record.
use Rattle.std.proofs.Common.{◌≡◌, ◌⊎◌, inl, inr, ℕ, ◌+◌, ◌<◌, List, [], ◌∷◌, ◌++◌, Bool, true, ◌||◌, length, map, get_or, Result, Ok, Err, refl, sym, ap, ◌∙◌, subst}
use Rattle.std.specs.Prelude.{IsTrue, IfOk, IfErr, slice_index, ◌==◌}
use Rattle.std.specs.List.{range_with_len}
use Rattle.std.proofs.lemmas.Bool.{eqb-true}
use Rattle.std.proofs.lemmas.List.FromFn.{fill_by_all}
use Rattle.flash_base.specs.Counts.{Rises}
use Rattle.flash_base.specs.declared.fault.NoMemory.{NoMemory}
use Rattle.flash_journal.specs.Look.{CameOfRead, IsLookAnswer, HasCause, Opens}
use Rattle.flash_journal.specs.declared.looking.OpenFault.{OpenFault}
use Rattle.flash_journal.specs.declared.looking.OpenFault.TheVariants as open_fault
use Rattle.flash_plan.specs.Canonical.{plan_digest}
use Rattle.flash_plan.specs.Outcomes.{same_entry}
use Rattle.flash_plan.specs.declared.outcome.Entry.{Entry}
use Rattle.flash_plan.specs.declared.unit.UnitPlan.{UnitPlan}
use Rattle.journal_model.specs.Records.{label_of, records, stands_at}
use Rattle.journal_steps.specs.Read as steps
use Rattle.journal_steps.specs.Later.{IsDisk}
use Rattle.journal_steps.specs.Tested.{Tested, tested, NotMade, NoJournal, OfOtherPlan, OfThisPlan}
use Rattle.journal_steps.proofs.Laters.{later_same}
use Rattle.journal_steps.proofs.Moments.{starts}
use Rattle.journal_steps.proofs.Slots.{below_at}
use Rattle.run_report.specs.OneLine.{other_plan_line}
use Rattle.run_report.specs.Recorded.{is_among, status_text}
use Rattle.shop_model.specs.History.{History, disk_now}
use Rattle.plan_commands.specs.Looking.{disk_failed, found, recorded, said_in, IsLooked, IsOfRead, OnlyReads, Shows}
use Rattle.plan_commands.specs.declared.answering.Answer.{Answer}
use Rattle.plan_commands.specs.declared.status.Status.TheVariants.{Done, Journal}

-- two definitions of one list test
same_among : (es : List Entry) (e : Entry) → is_among es e ≡ steps.is_among es e
same_among [] e = refl
same_among (x ∷ es) e = ap (λ (b : Bool). same_entry x e || b) (same_among es e)

-- the text goes by what is among the entries, so by what the bytes record
text_is : (P : List UnitPlan) (bytes : List ℕ) (es : List Entry) → ((e : Entry) → steps.is_among es e ≡ records (label_of P) bytes e)
    → status_text P (is_among es) ≡ status_text P (records (label_of P) bytes)
text_is P bytes es each =
    let same : is_among es ≡ records (label_of P) bytes = λ i e. (same_among es e ∙ each e) i in
    ap (status_text P) same

-- the digest that stands in the header is the one that was said
said_is : (bytes said : List ℕ) → length said ≡ 32 → stands_at bytes 16 32 said ≡ true → said ≡ said_in bytes
said_is bytes said long stands =
    fill_by_all (λ i. slice_index bytes (16 + i)) said 32 0 long
    (λ k lt. sym (eqb-true (slice_index bytes (16 + k)) (slice_index said k) (below_at 32 (λ i. slice_index bytes (16 + i) == slice_index said i) stands k lt)))

pub opened : (P : List UnitPlan) (bytes : List ℕ) → Opens (label_of P) bytes → recorded P bytes ≡ record { status = Done; text = status_text P (records (label_of P) bytes) }
opened P bytes (inl e) = ap (found P bytes) e
opened P bytes (inr e) = ap (found P bytes) e

module _ (P : List UnitPlan) where
  -- an answer other than want of the disk or of memory is that of the bytes
  ok_shown : (bytes : List ℕ) (es : List Entry) (a : Answer) → IsLookAnswer (label_of P) bytes (Ok es) → Shows P (Ok es) a → a ≡ recorded P bytes
  ok_shown bytes es a is shows = shows ∙ ap (λ (text : List ℕ). record { status = Done; text = text }) (text_is P bytes es is.entries) ∙ sym (opened P bytes is.opens)

  other_shown : (bytes said : List ℕ) (a : Answer) → IsLookAnswer (label_of P) bytes (Err (open_fault.OtherPlan said)) → Shows P (Err (open_fault.OtherPlan said)) a → a ≡ recorded P bytes
  other_shown bytes said a is shows =
      shows.1 ∙ ap (λ (s : List ℕ). record { status = Journal; text = other_plan_line s (plan_digest P) }) (said_is bytes said shows.0 is.1) ∙ sym (ap (found P bytes) is.0)

  module _ (tells : Bool) (image : List ℕ) (r : Result (List Entry) OpenFault) (a : Answer) (step : (bytes : List ℕ) → IsLookAnswer (label_of P) bytes r → a ≡ recorded P bytes)
      (works : r ≡ Err open_fault.DiskFault → ⊥) (room : r ≡ Err open_fault.NoMemory → ⊥) (is : IsTrue tells → IsLookAnswer (label_of P) image r) where
    read_so : CameOfRead tells (label_of P) image r → IsOfRead tells P image a
    read_so (inl e) = absurd (works e)
    read_so (inr (inl e)) = absurd (room e)
    read_so (inr (inr s)) = record { bytes = s.bytes; front = s.front; is = step s.bytes s.answer; whole = λ t. step image (is t) }

module _ (tells : Bool) (old new : History) (P : List UnitPlan) where
  abbrev image : List ℕ
  image = (disk_now old).bytes

  looked : (r : Result (List Entry) OpenFault) (a : Answer) → (IsTrue tells → IsLookAnswer (label_of P) image r) → CameOfRead tells (label_of P) image r → IfErr r (HasCause old new) → Shows P r a
      → IsLooked tells old new P a
  looked (Ok es) a is read cause shows =
      inr (read_so P tells image (Ok es) a (λ bytes answer. ok_shown P bytes es a answer shows) (λ e. let p : ⊥ = cc in p) (λ e. let p : ⊥ = cc in p) is read)
  looked (Err open_fault.NotJournal) a is read cause shows =
      inr (read_so P tells image (Err open_fault.NotJournal) a (λ bytes answer. shows ∙ sym (ap (found P bytes) answer)) (λ e. let p : ⊥ = cc in p) (λ e. let p : ⊥ = cc in p) is read)
  looked (Err (open_fault.OtherPlan said)) a is read cause shows =
      inr (read_so P tells image (Err (open_fault.OtherPlan said)) a (λ bytes answer. other_shown P bytes said a answer shows) (λ e. let p : ⊥ = cc in p) (λ e. let p : ⊥ = cc in p) is read)
  looked (Err open_fault.DiskFault) a is read cause shows = inl (shows, cause)
  looked (Err open_fault.NoMemory) a is read cause shows = absurd shows

  pub looked_so : (r : Result (List Entry) OpenFault) (x : Result Answer NoMemory) → (IsTrue tells → IsLookAnswer (label_of P) image r) → CameOfRead tells (label_of P) image r
      → IfErr r (HasCause old new) → IfOk x (Shows P r) → IfOk x (IsLooked tells old new P)
  looked_so r (Ok a) is read cause shows = looked r a is read cause shows
  looked_so r (Err e) is read cause shows = tt

-- no call was made
pub only_reads : (h : History) → OnlyReads h h
only_reads h = record {
  same = starts (IsDisk (disk_now h)) h refl;
  disk = refl;
  later = record { is_later = later_same h; vehicle = refl; link_faults = refl; link_calls = refl; linked = refl };
}
