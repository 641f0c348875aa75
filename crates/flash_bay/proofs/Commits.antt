-- What stands to be recorded may be appended to the journal.
use Rattle.std.proofs.Common.{◌≡◌, ◌≢◌, inl, inr, ℕ, zero, suc, get_or, ◌+◌, ◌<◌, ◌≤◌, true, false, List, [], ◌∷◌, ◌++◌, length, length-append, refl, sym, ◌∙◌, ap, subst, arith}
use Rattle.std.specs.Prelude.{Bool, not, ◌==◌, ◌||◌, nat_lt, if◌then◌else◌}
use Rattle.std.proofs.lemmas.Bool.{cases_Bool, false≢true, and_parts, and_from, eqb-true, eq-eqb, lt-ltb}
use Rattle.bay_core.proofs.Allowed.{begin_facts, finish_facts, mark_facts, open_none}
use Rattle.bay_core.proofs.Sane.{done_begun}
use Rattle.bay_core.specs.Legal.{is_mark, may_record, may_begin, may_mark, may_finish, without_failures}
use Rattle.bay_law.specs.Bay.{IsJournalOf}
use Rattle.disk_model.specs.Disk.{DiskState}
use Rattle.flash_base.specs.Lists.{Each}
use Rattle.flash_bay.proofs.Found.{counts_at}
use Rattle.flash_bay.specs.Recording.{HasRecordDue, records_next}
use Rattle.flash_bay.specs.State.{BayState, state_of}
use Rattle.flash_journal.proofs.Counts.{count_length}
use Rattle.flash_journal.specs.Kept.{journal_label, IsKeptOn, MayAppend, MayAppendAll}
use Rattle.flash_journal.specs.declared.journal.Journal.{Journal}
use Rattle.flash_plan.specs.Outcomes.{same_entry}
use Rattle.flash_plan.specs.Plan.{plan_of, count_of}
use Rattle.flash_plan.specs.declared.outcome.Entry.{Entry}
use Rattle.flash_plan.specs.declared.outcome.Entry.TheVariants.{Begun, Marked, Complete}
use Rattle.flash_plan.specs.declared.unit.UnitPlan.{UnitPlan}
use Rattle.flash_run.specs.Group.{AreApart, MayAll, entries_by, entries_due, group_below, group_of, unit_in}
use Rattle.flash_run.specs.Need.{ask_in, need_by, need_of, says_mark, is_linked}
use Rattle.flash_run.specs.Run.{RunState, IsKept, core_of_run, is_open, is_stopped}
use Rattle.flash_run.specs.declared.need.Need.{Need}
use Rattle.flash_run.specs.declared.need.Need.TheVariants as need
use Rattle.journal_model.specs.Records.{Label}
use Rattle.journal_steps.specs.Read.{is_among, AreOnce}
use Rattle.run_model.specs.Places.{FitsMarks, IsPlace, needs_begun}
use Rattle.run_model.specs.Script.{Place, AtIdent, AtBegin, AtProgram, AtSeed, AtKey, AtErase, AtDownload, AtBlock, AtExit, AtCheck, AtMark, AtFinish, AtReset, AtDone, AtEnd}
use Rattle.unit_session.specs.declared.session.Ask.{Ask}
use Rattle.unit_session.specs.declared.session.Ask.TheVariants as ask

not_true : (b : Bool) → not b ≡ true → b ≡ false
not_true true e = sym e
not_true false e = refl

-- ------ a mark
-- a segment of the unit, which is not marked, of a unit that is begun
record IsMarking (plan : UnitPlan) (marks : ℕ → Bool) (s : ℕ) (p : Place) : Type 0 where
  pub within : s < length plan.segments
  pub fresh : marks s ≡ false
  pub begun : needs_begun p ≡ true

marking : (plan : UnitPlan) (marks : ℕ → Bool) (s : ℕ) (p : Place) → is_mark s p ≡ true → IsPlace plan p → FitsMarks plan marks p → IsMarking plan marks s p
marking plan marks s (AtIdent w ws) is place fits = absurd (false≢true is)
marking plan marks s AtBegin is place fits = absurd (false≢true is)
marking plan marks s AtProgram is place fits = absurd (false≢true is)
marking plan marks s (AtSeed level) is place fits = absurd (false≢true is)
marking plan marks s (AtKey level seed) is place fits = absurd (false≢true is)
marking plan marks s (AtErase c) is place fits = absurd (false≢true is)
marking plan marks s (AtDownload c) is place fits = absurd (false≢true is)
marking plan marks s (AtBlock c b) is place fits = absurd (false≢true is)
marking plan marks s (AtExit c) is place fits = absurd (false≢true is)
marking plan marks s (AtCheck c) is place fits = absurd (false≢true is)
marking plan marks s (AtMark c) is place fits =
    let at : length c.done ≡ s = eqb-true (length c.done) s is in
    let size : length (c.done ++ (c.now ∷ c.left)) ≡ length c.done + length (c.now ∷ c.left) = length-append c.done (c.now ∷ c.left) in
    record { within = omega (arith, at, size, ap length place); fresh = ap marks (sym at) ∙ fits.now; begun = refl }
marking plan marks s AtFinish is place fits = absurd (false≢true is)
marking plan marks s AtReset is place fits = absurd (false≢true is)
marking plan marks s AtDone is place fits = absurd (false≢true is)
marking plan marks s (AtEnd outcome) is place fits = absurd (false≢true is)

-- ------ none twice
same_unit : (x e : Entry) → same_entry x e ≡ true → unit_in x ≡ unit_in e
same_unit (Begun a) (Begun b) is = eqb-true a b is
same_unit (Begun a) (Marked b t) is = absurd (false≢true is)
same_unit (Begun a) (Complete b) is = absurd (false≢true is)
same_unit (Marked a s) (Begun b) is = absurd (false≢true is)
same_unit (Marked a s) (Marked b t) is = eqb-true a b (and_parts _ _ is).0
same_unit (Marked a s) (Complete b) is = absurd (false≢true is)
same_unit (Complete a) (Begun b) is = absurd (false≢true is)
same_unit (Complete a) (Marked b t) is = absurd (false≢true is)
same_unit (Complete a) (Complete b) is = eqb-true a b is

none_among : (x : Entry) (es : List Entry) → Each (λ e. unit_in e ≢ unit_in x) es → is_among es x ≡ false
none_among x [] apart = refl
none_among x (e ∷ es) apart = elim (cases_Bool (same_entry e x)) [
  | inl is ↦ absurd (apart.0 (same_unit e x is))
  | inr is ↦ (λ i. is i || is_among es x) ∙ none_among x es apart.1
]

once : (es : List Entry) → AreApart es → AreOnce es
once [] apart = tt
once (e ∷ es) apart = (none_among e es apart.0, once es apart.1)

-- ------ one entry
module _ (td : Bool) (r : RunState) (j : Journal) (disk : DiskState) (kept : IsKept r) (is : IsJournalOf td r.plan (core_of_run r) (state_of j) (IsKeptOn j) disk) where
  below_units : (u : ℕ) → u < count_of r.plan → nat_lt u (length (journal_label j).segments) ≡ true
  below_units u lt = lt-ltb u (length (journal_label j).segments) (omega (arith, lt, ap (λ (L : Label). length L.segments) is.label, count_length r.plan))

  pub may_append : (e : Entry) → may_record r.plan (core_of_run r) (unit_in e) e ≡ true → MayAppend j e
  may_append (Begun u) may =
      let ok : may_begin r.plan (without_failures (core_of_run r)) u ≡ true = (and_parts (u == u) (may_begin r.plan (without_failures (core_of_run r)) u) may).1 in
      let f = begin_facts r.plan (without_failures (core_of_run r)) u ok in
      let fresh : (core_of_run r).recorded (Begun u) ≡ false = not_true _ (and_parts _ _ (and_parts _ _ (and_parts _ _ ok).0).0).1 in
      record { named = below_units u f.below; fresh = is.entries (Begun u) ∙ fresh; prepared = tt }
  may_append (Marked u s) may =
      let ok : may_mark r.plan (without_failures (core_of_run r)) u s ≡ true = (and_parts (u == u) (may_mark r.plan (without_failures (core_of_run r)) u s) may).1 in
      let f = mark_facts r.plan (without_failures (core_of_run r)) u s ok in
      let slot = kept.sane.slots u f.below in
      let m : IsMarking (plan_of r.plan u) ((core_of_run r).slots u).talk.marks s ((core_of_run r).slots u).talk.place =
      marking (plan_of r.plan u) ((core_of_run r).slots u).talk.marks s ((core_of_run r).slots u).talk.place f.at slot.talk.place slot.talk.marked in
      let size : get_or (journal_label j).segments u 0 ≡ length (plan_of r.plan u).segments = ap (λ (L : Label). get_or L.segments u 0) is.label ∙ counts_at r.plan u f.below in
      record {
        named = and_from _ _ (below_units u f.below) (lt-ltb s (get_or (journal_label j).segments u 0) (omega (arith, m.within, size)));
        fresh = is.entries (Marked u s) ∙ sym (slot.talk.marks_are s) ∙ m.fresh;
        prepared = is.entries (Begun u) ∙ slot.talk.begun m.begun;
      }
  may_append (Complete u) may =
      let ok : may_finish r.plan (without_failures (core_of_run r)) u ≡ true = (and_parts (u == u) (may_finish r.plan (without_failures (core_of_run r)) u) may).1 in
      let f = finish_facts r.plan (without_failures (core_of_run r)) u ok in
      let slot = kept.sane.slots u f.below in
      record {
        named = below_units u f.below;
        fresh = is.entries (Complete u) ∙ slot.incomplete (open_none r.plan (without_failures (core_of_run r)) u f.opened);
        prepared = is.entries (Begun u) ∙ slot.talk.begun (done_begun ((core_of_run r).slots u).talk.place f.done);
      }

  each_append : (es : List Entry) → MayAll r es → Each (MayAppend j) es
  each_append [] may = tt
  each_append (e ∷ es) may = (may_append e may.0, each_append es may.1)

  pub may_group : (es : List Entry) → 1 ≤ length es → length es ≤ 64 → AreApart es → MayAll r es → MayAppendAll j es
  may_group es some few apart may = record { some = some; few = few; each = each_append es may; once = once es apart }

-- ------ some entry is due
marks_asked : (failed stopped linked : Bool) (a : Ask) → need_by failed stopped linked a ≡ need.Mark → says_mark a ≡ true
marks_asked failed true linked ask.Begin e = absurd (cc)
marks_asked failed false true ask.Begin e = absurd (cc)
marks_asked failed false false ask.Begin e = absurd (cc)
marks_asked failed true linked ask.Send e = absurd (cc)
marks_asked failed false true ask.Send e = absurd (cc)
marks_asked failed false false ask.Send e = absurd (cc)
marks_asked failed true linked ask.Wait e = absurd (cc)
marks_asked failed false true ask.Wait e = absurd (cc)
marks_asked failed false false ask.Wait e = absurd (cc)
marks_asked failed stopped linked (ask.Mark s) e = refl
marks_asked false stopped linked ask.Done e = absurd (cc)
marks_asked true true linked ask.Done e = absurd (cc)
marks_asked true false true ask.Done e = absurd (cc)
marks_asked true false false ask.Done e = absurd (cc)
marks_asked failed stopped linked (ask.Ended x) e = absurd (cc)

opens : (b : Bool) (x : Need) → (if b then x else need.Gone) ≡ need.Mark → x ≡ need.Mark
opens true x e = e
opens false x e = absurd (cc)

marks_one : (u : ℕ) (a : Ask) → says_mark a ≡ true → 1 ≤ length (entries_by u a need.Mark)
marks_one u ask.Begin e = absurd (false≢true e)
marks_one u ask.Send e = absurd (false≢true e)
marks_one u ask.Wait e = absurd (false≢true e)
marks_one u (ask.Mark s) e = omega arith
marks_one u ask.Done e = absurd (false≢true e)
marks_one u (ask.Ended x) e = absurd (false≢true e)

due_one : (u : ℕ) (a : Ask) (n : Need) → records_next n ≡ true → (n ≡ need.Mark → says_mark a ≡ true) → 1 ≤ length (entries_by u a n)
due_one u a need.Gone is marks = absurd (false≢true is)
due_one u a need.Complete is marks = omega arith
due_one u a need.End is marks = absurd (false≢true is)
due_one u a need.Mark is marks = marks_one u a (marks refl)
due_one u a need.Tend is marks = absurd (false≢true is)
due_one u a need.Begin is marks = omega arith
due_one u a need.Send is marks = absurd (false≢true is)
due_one u a need.Collect is marks = absurd (false≢true is)

some_below : (r : RunState) (u n : ℕ) → u < n → 1 ≤ length (entries_due r u) → 1 ≤ length (group_below r n)
some_below r u zero lt some = absurd (omega (arith, lt))
some_below r u (suc n) lt some =
    let size : length (group_below r n ++ entries_due r n) ≡ length (group_below r n) + length (entries_due r n) = length-append (group_below r n) (entries_due r n) in
    elim (cases_Bool (u == n)) [
      | inl e ↦ (let same : length (entries_due r u) ≡ length (entries_due r n) = ap (λ (k : ℕ). length (entries_due r k)) (eqb-true u n e) in omega (arith, size, some, same))
      | inr e ↦ (let lower : u < n = omega (arith, lt, differ u n e) in let less : 1 ≤ length (group_below r n) = some_below r u n lower some in omega (arith, size, less))
    ]
  where
    differ : (a b : ℕ) → (a == b) ≡ false → a ≢ b
    differ a b e is = false≢true (sym e ∙ eq-eqb a b is)

pub some_due : (r : RunState) → HasRecordDue r → 1 ≤ length (group_of r)
some_due r due =
    some_below r due.unit (count_of r.plan) due.within
    (due_one due.unit (ask_in r due.unit) (need_of r due.unit) due.due (λ is. marks_asked (core_of_run r).halt.failed (is_stopped r) (is_linked (core_of_run r)) (ask_in r due.unit) (opens (is_open r due.unit) _ is)))

pub record_due_in : {S : Type 0} (b : BayState S) (r : RunState) (first shop : S) (a : ℕ) → ◌≡◌ {A = BayState S} (record { run = r; first = first; shop = shop; slots = a }) b → HasRecordDue b.run → HasRecordDue r
record_due_in {S = S} b r first shop a view due = subst (λ (x : BayState S). HasRecordDue x.run) (sym view) due
