-- The entries that stand to be recorded: they are of different units, and may be recorded one after another.
use Rattle.std.proofs.Common.{◌≡◌, ◌≢◌, inl, inr, ℕ, zero, suc, ◌+◌, ◌<◌, ◌≤◌, true, false, List, [], ◌∷◌, ◌++◌, length, length-append, take, None, Some, refl, sym, ◌∙◌, ap, subst, arith}
use Rattle.std.specs.Prelude.{Bool, Option, map, not, ◌&&◌, ◌||◌, ◌==◌, nat_lt, is_some, is_none}
use Rattle.std.proofs.lemmas.Bool.{cases_Bool, false≢true, le-ltb, and_parts, and_from, eqb-true, eq-eqb}
use Rattle.barrier_board.specs.Board.{has_entry}
use Rattle.bay_core.specs.Core.{Core, Slot, core_start, core_after, with_slot, slots_lost, slots_own, recorded_after, link_stop, stop_after}
use Rattle.bay_core.specs.Legal.{is_allowed, may_record, may_begin, may_mark, may_finish, is_open_unit, is_begin, is_mark, is_done, is_clear, without_failures}
use Rattle.bay_core.specs.declared.event.Event.{Event}
use Rattle.bay_core.specs.declared.event.Event.TheVariants.{DiskFailed}
use Rattle.flash_base.specs.Lists.{Each}
use Rattle.flash_plan.specs.Plan.{count_of}
use Rattle.flash_plan.specs.declared.outcome.Entry.{Entry}
use Rattle.flash_plan.specs.declared.outcome.Entry.TheVariants.{Begun, Marked, Complete}
use Rattle.flash_plan.specs.declared.outcome.Outcome.{Outcome}
use Rattle.flash_plan.specs.declared.unit.LinkRules.{LinkRules}
use Rattle.flash_plan.specs.declared.unit.UnitPlan.{UnitPlan}
use Rattle.run_model.specs.Link.{Link, is_up}
use Rattle.unit_session.specs.declared.session.Ask.{Ask}
use Rattle.unit_session.specs.declared.session.Ask.TheVariants as ask
use Rattle.flash_run.proofs.Lists.{core_more}
use Rattle.flash_run.proofs.Settled.{settled_kept}
use Rattle.flash_run.specs.Group.{unit_in, recorded_as, failed_as, entries_by, entries_due, group_below, group_of, TakesAll, AreApart, IsGroupDue}
use Rattle.flash_run.specs.Need.{ask_in, need_of, AreDue}
use Rattle.flash_run.specs.Run.{RunState, IsKept, IsSettled, core_of_run, with_event, may_take, is_closing}
use Rattle.flash_run.specs.declared.need.Need.{Need}
use Rattle.flash_run.specs.declared.need.Need.TheVariants as need

-- ------ lists
each_join : {X : Type 0} (Q : X → Type 0) (xs ys : List X) → Each Q xs → Each Q ys → Each Q (xs ++ ys)
each_join Q [] ys a b = b
each_join Q (x ∷ xs) ys a b = (a.0, each_join Q xs ys a.1 b)

each_map : {X : Type 0} (Q R : X → Type 0) (xs : List X) → ((x : X) → Q x → R x) → Each Q xs → Each R xs
each_map Q R [] f a = tt
each_map Q R (x ∷ xs) f a = (f x a.0, each_map Q R xs f a.1)

each_both : {X : Type 0} (Q R S : X → Type 0) (xs : List X) → ((x : X) → Q x → R x → S x) → Each Q xs → Each R xs → Each S xs
each_both Q R S [] f a b = tt
each_both Q R S (x ∷ xs) f a b = (f x a.0 b.0, each_both Q R S xs f a.1 b.1)

each_take : {X : Type 0} (Q : X → Type 0) (n : ℕ) (xs : List X) → Each Q xs → Each Q (take n xs)
each_take Q zero xs a = tt
each_take Q (suc n) [] a = tt
each_take Q (suc n) (x ∷ xs) a = (a.0, each_take Q n xs a.1)

apart_take : (n : ℕ) (es : List Entry) → AreApart es → AreApart (take n es)
apart_take zero es a = tt
apart_take (suc n) [] a = tt
apart_take (suc n) (e ∷ es) a = (each_take (λ x. unit_in x ≢ unit_in e) n es a.0, apart_take n es a.1)

-- ------ one entry that stands to be recorded
abbrev IsDueEntry : RunState → Entry → Type 0
IsDueEntry r (Begun u) = need_of r u ≡ need.Begin
IsDueEntry r (Marked u s) = (need_of r u ≡ need.Mark) × (ask_in r u ≡ ask.Mark s)
IsDueEntry r (Complete u) = need_of r u ≡ need.Complete

abbrev IsDueOf : RunState → ℕ → Entry → Type 0
IsDueOf r u e = (unit_in e ≡ u) × IsDueEntry r e

marks_due : (r : RunState) (u : ℕ) (a : Ask) → need_of r u ≡ need.Mark → ask_in r u ≡ a → Each (IsDueOf r u) (entries_by u a need.Mark)
marks_due r u ask.Begin is asks = tt
marks_due r u ask.Send is asks = tt
marks_due r u ask.Wait is asks = tt
marks_due r u (ask.Mark s) is asks = ((refl, (is, asks)), tt)
marks_due r u ask.Done is asks = tt
marks_due r u (ask.Ended x) is asks = tt

by_need : (r : RunState) (u : ℕ) (n : Need) → need_of r u ≡ n → Each (IsDueOf r u) (entries_by u (ask_in r u) n)
by_need r u need.Gone is = tt
by_need r u need.Complete is = ((refl, is), tt)
by_need r u need.End is = tt
by_need r u need.Mark is = marks_due r u (ask_in r u) is refl
by_need r u need.Tend is = tt
by_need r u need.Begin is = ((refl, is), tt)
by_need r u need.Send is = tt
by_need r u need.Collect is = tt

marks_one : (u : ℕ) (a : Ask) → length (entries_by u a need.Mark) ≤ 1
marks_one u ask.Begin = omega arith
marks_one u ask.Send = omega arith
marks_one u ask.Wait = omega arith
marks_one u (ask.Mark s) = omega arith
marks_one u ask.Done = omega arith
marks_one u (ask.Ended x) = omega arith

one_need : (u : ℕ) (a : Ask) (n : Need) → length (entries_by u a n) ≤ 1
one_need u a need.Gone = omega arith
one_need u a need.Complete = omega arith
one_need u a need.End = omega arith
one_need u a need.Mark = marks_one u a
one_need u a need.Tend = omega arith
one_need u a need.Begin = omega arith
one_need u a need.Send = omega arith
one_need u a need.Collect = omega arith

group_few : (r : RunState) (n : ℕ) → length (group_below r n) ≤ n
group_few r zero = omega arith
group_few r (suc n) =
    let size : length (group_below r n ++ entries_due r n) ≡ length (group_below r n) + length (entries_due r n) = length-append (group_below r n) (entries_due r n) in
    omega (arith, size, group_few r n, one_need n (ask_in r n) (need_of r n))

group_due : (r : RunState) (n : ℕ) → Each (λ e. (unit_in e < n) × IsDueEntry r e) (group_below r n)
group_due r zero = tt
group_due r (suc n) =
    each_join (λ e. (unit_in e < suc n) × IsDueEntry r e) (group_below r n) (entries_due r n)
    (each_map (λ e. (unit_in e < n) × IsDueEntry r e) (λ e. (unit_in e < suc n) × IsDueEntry r e) (group_below r n) (λ e d. (later (unit_in e) n d.0, d.1)) (group_due r n))
    (each_map (IsDueOf r n) (λ e. (unit_in e < suc n) × IsDueEntry r e) (entries_due r n) (λ e d. (last (unit_in e) n d.0, d.1)) (by_need r n (need_of r n) refl))
  where
    later : (a b : ℕ) → a < b → a < suc b
    later a b lt = omega (arith, lt)

    last : (a b : ℕ) → a ≡ b → a < suc b
    last a b is = omega (arith, is)

apart_one : (es : List Entry) → length es ≤ 1 → AreApart es
apart_one [] few = tt
apart_one (e ∷ []) few = (tt, tt)
apart_one (e ∷ x ∷ es) few = absurd (omega (arith, few))

apart_join : (n : ℕ) (xs ys : List Entry) → Each (λ e. unit_in e < n) xs → Each (λ e. unit_in e ≡ n) ys → AreApart xs → AreApart ys → AreApart (xs ++ ys)
apart_join n [] ys low high a b = b
apart_join n (x ∷ xs) ys low high a b =
    (each_join (λ e. unit_in e ≢ unit_in x) xs ys a.0 (each_map (λ e. unit_in e ≡ n) (λ e. unit_in e ≢ unit_in x) ys (λ e is same. differ (unit_in e) (unit_in x) n is low.0 same) high), apart_join n xs ys low.1 high a.1 b)
  where
    differ : (a b n : ℕ) → a ≡ n → b < n → a ≡ b → ⊥
    differ a b n is lt same = omega (arith, is, lt, same)

group_apart : (r : RunState) (n : ℕ) → AreApart (group_below r n)
group_apart r zero = tt
group_apart r (suc n) =
    apart_join n (group_below r n) (entries_due r n) (each_map (λ e. (unit_in e < n) × IsDueEntry r e) (λ e. unit_in e < n) (group_below r n) (λ e d. d.0) (group_due r n))
    (each_map (IsDueOf r n) (λ e. unit_in e ≡ n) (entries_due r n) (λ e d. d.0) (by_need r n (need_of r n) refl)) (group_apart r n) (apart_one (entries_due r n) (one_need n (ask_in r n) (need_of r n)))

-- ------ it may be recorded
entry_may : (r : RunState) → AreDue r → (e : Entry) → IsDueEntry r e → may_take r (recorded_as e) ≡ true
entry_may r due (Begun u) is = due.begin u is
entry_may r due (Marked u s) is = due.mark u s is.0 is.1
entry_may r due (Complete u) is = due.complete u is

-- and no append has failed
entry_sound : (r : RunState) → IsKept r → (e : Entry) → may_take r (recorded_as e) ≡ true → (core_of_run r).halt.failed ≡ false
entry_sound r kept e may = by_case e (and_parts (not r.starved || is_closing (recorded_as e)) (is_allowed r.plan (core_of_run r) (recorded_as e)) may).1
  where
    runs : (o : Option Outcome) (f : Bool) → is_none o ≡ true → (f ≡ true → is_some o ≡ true) → f ≡ false
    runs None true none stops = sym (stops refl)
    runs None false none stops = refl
    runs (Some x) f none stops = absurd (false≢true none)

    not_failed : (f : Bool) → not f ≡ true → f ≡ false
    not_failed true e' = sym e'
    not_failed false e' = refl

    by_case : (x : Entry) → is_allowed r.plan (core_of_run r) (recorded_as x) ≡ true → (core_of_run r).halt.failed ≡ false
    by_case (Begun u) ok = runs (core_of_run r).halt.stop (core_of_run r).halt.failed (and_parts _ _ (and_parts _ _ (and_parts _ _ ok).1).0).0 kept.settled.failed
    by_case (Marked u s) ok = runs (core_of_run r).halt.stop (core_of_run r).halt.failed (and_parts _ _ ok).1 kept.settled.failed
    by_case (Complete u) ok = not_failed (core_of_run r).halt.failed (and_parts _ _ ok).1

-- ------ what one record leaves of the others
never : (n : ℕ) → nat_lt n n ≡ false
never n = le-ltb n n (omega arith)

unlost : (P : List UnitPlan) (R : Entry → Bool) (b : Bool) (slots : ℕ → Slot) (n : ℕ) → b ≡ false → slots_lost P R b slots n ≡ slots n
unlost P R true slots n e = absurd (false≢true (sym e))
unlost P R false slots n e = refl

with_other : (u n : ℕ) (s : Slot) (slots : ℕ → Slot) → n ≢ u → with_slot u s slots n ≡ slots n
with_other u n s slots ne = elim (cases_Bool (n == u)) [ inl e ↦ absurd (ne (eqb-true n u e)) | inr e ↦ rw e refl ]

own_other : (rules : LinkRules) (P : List UnitPlan) (e : Entry) (c : Core) (n : ℕ) → n ≢ unit_in e → slots_own rules P (recorded_as e) c n ≡ c.slots n
own_other rules P (Begun u) c n ne = with_other u n _ c.slots ne
own_other rules P (Marked u s) c n ne = with_other u n _ c.slots ne
own_other rules P (Complete u) c n ne = with_other u n _ c.slots ne

link_kept : (rules : LinkRules) (P : List UnitPlan) (e : Entry) (c : Core) → (core_after rules P (recorded_as e) c).link ≡ c.link
link_kept rules P (Begun u) c = refl
link_kept rules P (Marked u s) c = refl
link_kept rules P (Complete u) c = refl

slot_kept : (rules : LinkRules) (P : List UnitPlan) (e : Entry) (c : Core) (n : ℕ) → n ≢ unit_in e → (core_after rules P (recorded_as e) c).slots n ≡ c.slots n
slot_kept rules P e c n ne =
    let same : nat_lt c.link.losses (core_after rules P (recorded_as e) c).link.losses ≡ false = ap (λ (l : Link). nat_lt c.link.losses l.losses) (link_kept rules P e c) ∙ never c.link.losses in
    unlost P (recorded_after (recorded_as e) c.recorded) (nat_lt c.link.losses (core_after rules P (recorded_as e) c).link.losses) (slots_own rules P (recorded_as e) c) n same ∙ own_other rules P e c n ne

begun_kept : (rules : LinkRules) (P : List UnitPlan) (e : Entry) (c : Core) (n : ℕ) → n ≢ unit_in e → (core_after rules P (recorded_as e) c).recorded (Begun n) ≡ c.recorded (Begun n)
begun_kept rules P (Begun u) c n ne = elim (cases_Bool (n == u)) [ inl e ↦ absurd (ne (eqb-true n u e)) | inr e ↦ ap (λ (b : Bool). b || c.recorded (Begun n)) e ]
begun_kept rules P (Marked u s) c n ne = refl
begun_kept rules P (Complete u) c n ne = refl

stop_kept : (rules : LinkRules) (e : Entry) (o : Option Outcome) (l : Link) → (o ≡ None → link_stop rules l ≡ None) → stop_after o (recorded_as e) rules l ≡ o
stop_kept rules e (Some x) l free = refl
stop_kept rules (Begun u) None l free = free refl
stop_kept rules (Marked u s) None l free = free refl
stop_kept rules (Complete u) None l free = free refl

halt_kept : (rules : LinkRules) (P : List UnitPlan) (e : Entry) (c : Core) → IsSettled rules c → (core_after rules P (recorded_as e) c).halt ≡ c.halt
halt_kept rules P (Begun u) c settled = λ i. record { stop = stop_kept rules (Begun u) c.halt.stop c.link settled.running i; failed = c.halt.failed }
halt_kept rules P (Marked u s) c settled = λ i. record { stop = stop_kept rules (Marked u s) c.halt.stop c.link settled.running i; failed = c.halt.failed }
halt_kept rules P (Complete u) c settled = λ i. record { stop = stop_kept rules (Complete u) c.halt.stop c.link settled.running i; failed = c.halt.failed }

module _ (rules : LinkRules) (P : List UnitPlan) (e : Entry) (c : Core) (settled : IsSettled rules c) where
  open_kept : (w : ℕ) → w ≢ unit_in e → is_open_unit P (core_after rules P (recorded_as e) c) w ≡ is_open_unit P c w
  open_kept w ne = ap (λ (s : Slot). nat_lt w (count_of P) && s.claimed && is_none s.outcome) (slot_kept rules P e c w ne)

  clear_kept : is_clear (core_after rules P (recorded_as e) c) ≡ is_clear c
  clear_kept = λ i. is_none (halt_kept rules P e c settled i).stop && is_up (link_kept rules P e c i).phase && not (link_kept rules P e c i).owes

  allowed_kept : (x : Entry) → unit_in x ≢ unit_in e → is_allowed P (core_after rules P (recorded_as e) c) (recorded_as x) ≡ is_allowed P c (recorded_as x)
  allowed_kept (Begun w) ne = λ i. open_kept w ne i && not (begun_kept rules P e c w ne i) && is_begin (slot_kept rules P e c w ne i).talk.place && clear_kept i
  allowed_kept (Marked w k) ne = λ i. open_kept w ne i && is_mark k (slot_kept rules P e c w ne i).talk.place && is_none (halt_kept rules P e c settled i).stop
  allowed_kept (Complete w) ne = λ i. open_kept w ne i && is_done (slot_kept rules P e c w ne i).talk.place && not (halt_kept rules P e c settled i).failed

core_with : (r : RunState) (e : Event) → core_of_run (with_event e r) ≡ core_after r.rules r.plan e (core_of_run r)
core_with r e = core_more r.rules r.plan (core_start r.plan (has_entry r.found)) r.events e

take_kept : (r : RunState) (e x : Entry) → IsSettled r.rules (core_of_run r) → unit_in x ≢ unit_in e → may_take r (recorded_as x) ≡ true → may_take (with_event (recorded_as e) r) (recorded_as x) ≡ true
take_kept r e x settled ne may =
    let p = and_parts (not r.starved || is_closing (recorded_as x)) (is_allowed r.plan (core_of_run r) (recorded_as x)) may in
    and_from _ _ p.0 (ap (λ (c : Core). is_allowed r.plan c (recorded_as x)) (core_with r (recorded_as e)) ∙ allowed_kept r.rules r.plan e (core_of_run r) settled x ne ∙ p.1)

pub takes_records : (es : List Entry) (r : RunState) → IsSettled r.rules (core_of_run r) → Each (λ x. may_take r (recorded_as x) ≡ true) es → AreApart es → TakesAll r (map recorded_as es)
takes_records [] r settled may apart = tt
takes_records (e ∷ es) r settled may apart =
    let settled2 : IsSettled r.rules (core_of_run (with_event (recorded_as e) r)) = subst (λ (c : Core). IsSettled r.rules c) (sym (core_with r (recorded_as e))) (settled_kept r.rules r.plan (recorded_as e) (core_of_run r) settled) in (
      may.0,
      takes_records es (with_event (recorded_as e) r) settled2
          (each_both (λ x. may_take r (recorded_as x) ≡ true) (λ x. unit_in x ≢ unit_in e) (λ x. may_take (with_event (recorded_as e) r) (recorded_as x) ≡ true) es (λ x m ne. take_kept r e x settled ne m) may.1 apart.0) apart.1,
    )

-- ------ appends that fail
slots_failed : (rules : LinkRules) (P : List UnitPlan) (c : Core) (u : ℕ) (x : Entry) (n : ℕ) → (core_after rules P (DiskFailed u x) c).slots n ≡ with_slot u (record (c.slots u) { faulted = true }) c.slots n
slots_failed rules P c u x n = unlost P c.recorded (nat_lt c.link.losses c.link.losses) (with_slot u (record (c.slots u) { faulted = true }) c.slots) n (never c.link.losses)

-- what the tests of an append look at of a slot
pub record Looks (s t : Slot) : Type 0 where
  pub claimed : s.claimed ≡ t.claimed
  pub outcome : s.outcome ≡ t.outcome
  pub talk : s.talk ≡ t.talk

looks_same : (rules : LinkRules) (P : List UnitPlan) (c : Core) (u : ℕ) (x : Entry) (n : ℕ) → Looks ((core_after rules P (DiskFailed u x) c).slots n) (c.slots n)
looks_same rules P c u x n = subst (λ (s : Slot). Looks s (c.slots n)) (sym (slots_failed rules P c u x n)) (elim (cases_Bool (n == u)) [
  | inl e ↦ (let is : n ≡ u = eqb-true n u e in rw e (record { claimed = ap (λ (k : ℕ). (c.slots k).claimed) (sym is); outcome = ap (λ (k : ℕ). (c.slots k).outcome) (sym is); talk = ap (λ (k : ℕ). (c.slots k).talk) (sym is) }))
  | inr e ↦ rw e (record { claimed = refl; outcome = refl; talk = refl })
])

module _ (rules : LinkRules) (P : List UnitPlan) (c : Core) (u : ℕ) (x : Entry) (w : ℕ) (looks : Looks ((core_after rules P (DiskFailed u x) c).slots w) (c.slots w)) where
  open_same : is_open_unit P (core_after rules P (DiskFailed u x) c) w ≡ is_open_unit P c w
  open_same = λ i. nat_lt w (count_of P) && looks.claimed i && is_none (looks.outcome i)

  record_by : (y : Entry) → may_record P (core_after rules P (DiskFailed u x) c) w y ≡ may_record P c w y
  record_by (Begun n) = λ i. n == w && (open_same i && not (c.recorded (Begun w)) && is_begin (looks.talk i).place && (is_none c.before.stop && is_up c.link.phase && not c.link.owes))
  record_by (Marked n k) = λ i. n == w && (open_same i && is_mark k (looks.talk i).place && is_none c.before.stop)
  record_by (Complete n) = λ i. n == w && (open_same i && is_done (looks.talk i).place && not c.before.failed)

-- the append of another entry may still be tried, or may still not
pub record_same : (rules : LinkRules) (P : List UnitPlan) (c : Core) (u : ℕ) (x : Entry) (w : ℕ) (y : Entry) → may_record P (core_after rules P (DiskFailed u x) c) w y ≡ may_record P c w y
record_same rules P c u x w y = record_by rules P c u x w (looks_same rules P c u x w) y

-- before the first failure an append may be tried where the entry may be recorded
same_core : (c : Core) → c.before ≡ c.halt → without_failures c ≡ c
same_core c is = λ i. record { link = c.link; slots = c.slots; recorded = c.recorded; doubted = c.doubted; halt = is i; before = c.before }

record_first : (P : List UnitPlan) (c : Core) (e : Entry) → c.before ≡ c.halt → is_allowed P c (recorded_as e) ≡ true → may_record P c (unit_in e) e ≡ true
record_first P c (Begun u) is ok = and_from _ _ (eq-eqb u u refl) (ap (λ (x : Core). may_begin P x u) (same_core c is) ∙ ok)
record_first P c (Marked u s) is ok = and_from _ _ (eq-eqb u u refl) (ap (λ (x : Core). may_mark P x u s) (same_core c is) ∙ ok)
record_first P c (Complete u) is ok = and_from _ _ (eq-eqb u u refl) (ap (λ (x : Core). may_finish P x u) (same_core c is) ∙ ok)

closing_same : (e : Entry) → is_closing (failed_as e) ≡ is_closing (recorded_as e)
closing_same (Begun u) = refl
closing_same (Marked u s) = refl
closing_same (Complete u) = refl

abbrev MayFail : RunState → Entry → Type 0
MayFail r x = may_take r (failed_as x) ≡ true

fail_kept : (r : RunState) (e x : Entry) → MayFail r x → MayFail (with_event (failed_as e) r) x
fail_kept r e x may =
    let p = and_parts (not r.starved || is_closing (failed_as x)) (is_allowed r.plan (core_of_run r) (failed_as x)) may in
    and_from _ _ p.0 (ap (λ (c : Core). is_allowed r.plan c (failed_as x)) (core_with r (failed_as e)) ∙ record_same r.rules r.plan (core_of_run r) (unit_in e) e (unit_in x) x ∙ p.1)

takes_fails : (es : List Entry) (r : RunState) → Each (MayFail r) es → TakesAll r (map failed_as es)
takes_fails [] r may = tt
takes_fails (e ∷ es) r may = (may.0, takes_fails es (with_event (failed_as e) r) (each_map (MayFail r) (MayFail (with_event (failed_as e) r)) es (λ x m. fail_kept r e x m) may.1))

-- ------ the group
module _ (r : RunState) (kept : IsKept r) (due : AreDue r) where
  all_may : Each (λ x. may_take r (recorded_as x) ≡ true) (group_of r)
  all_may = each_map (λ e. (unit_in e < count_of r.plan) × IsDueEntry r e) (λ x. may_take r (recorded_as x) ≡ true) (group_of r) (λ e d. entry_may r due e d.1) (group_due r (count_of r.plan))

  may_try : (e : Entry) → may_take r (recorded_as e) ≡ true → may_record r.plan (core_of_run r) (unit_in e) e ≡ true
  may_try e may =
      record_first r.plan (core_of_run r) e (kept.settled.before (entry_sound r kept e may)) (and_parts (not r.starved || is_closing (recorded_as e)) (is_allowed r.plan (core_of_run r) (recorded_as e)) may).1

  may_fail : (e : Entry) → may_take r (recorded_as e) ≡ true → MayFail r e
  may_fail e may =
      let p = and_parts (not r.starved || is_closing (recorded_as e)) (is_allowed r.plan (core_of_run r) (recorded_as e)) may in
      and_from _ _ (ap (λ (b : Bool). not r.starved || b) (closing_same e) ∙ p.0) (may_try e may)

  first_sound : (es : List Entry) → Each (λ x. may_take r (recorded_as x) ≡ true) es → es ≢ [] → (core_of_run r).halt.failed ≡ false
  first_sound [] may some = absurd (some refl)
  first_sound (e ∷ es) may some = entry_sound r kept e may.0

  pub group_is_due : IsGroupDue r
  group_is_due = record {
    few = below (length (group_of r)) (count_of r.plan) (group_few r (count_of r.plan)) kept.accepted.few;
    apart = group_apart r (count_of r.plan);
    may = λ f. each_map (λ x. may_take r (recorded_as x) ≡ true) (λ e. may_record r.plan (core_of_run r) (unit_in e) e ≡ true) (group_of r) may_try all_may;
    sound = first_sound (group_of r) all_may;
    recorded = λ n. takes_records (take n (group_of r)) r kept.settled (each_take (λ x. may_take r (recorded_as x) ≡ true) n (group_of r) all_may) (apart_take n (group_of r) (group_apart r (count_of r.plan)));
    failed = takes_fails (group_of r) r (each_map (λ x. may_take r (recorded_as x) ≡ true) (MayFail r) (group_of r) may_fail all_may);
  }
    where
      below : (a b : ℕ) → a ≤ b → b ≤ 64 → a ≤ 64
      below a b le few = omega (arith, le, few)
