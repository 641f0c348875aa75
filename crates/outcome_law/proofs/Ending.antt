-- Each recorded outcome has its cause.
use Rattle.std.proofs.Common.{◌≡◌, ◌⊎◌, inl, inr, ℕ, zero, suc, ◌+◌, ◌<◌, ◌≤◌, true, false, List, [], ◌∷◌, length, Some, None, refl, sym, ◌∙◌, ap, subst, arith}
use Rattle.std.specs.Prelude.{Bool, Option, ◌==◌, ◌&&◌, ◌||◌, nat_lt, is_some, Contains, slice_index_or, unwrap_or, if◌then◌else◌}
use Rattle.std.proofs.lemmas.Bool.{cases_Bool, false≢true, and_parts, eqb-true, ltb-true, ltb-false, or_cases, or_right}
use Rattle.flash_base.specs.Lists.{Each}
use Rattle.flash_plan.specs.Outcomes.{same_outcome}
use Rattle.flash_plan.specs.Plan.{IsAccepted, Ascend, plan_of, count_of}
use Rattle.flash_plan.specs.declared.outcome.Entry.{Entry}
use Rattle.flash_plan.specs.declared.outcome.Entry.TheVariants as entry
use Rattle.flash_plan.specs.declared.outcome.Outcome.{Outcome}
use Rattle.flash_plan.specs.declared.outcome.Outcome.TheVariants.{Complete, IdentMismatch, Refused, BadAnswer, CheckFailed, Undelivered, NoAnswer, PendingLimit, BusyLimit, LinkLost, LinkRefused, DiskFault, NoMemory, Blocked}
use Rattle.flash_plan.specs.declared.unit.LinkRules.{LinkRules}
use Rattle.flash_plan.specs.declared.unit.UnitPlan.{UnitPlan}
use Rattle.run_model.specs.Link.{Link, Phase}
use Rattle.run_model.specs.Link as phase
use Rattle.run_model.specs.Script.{Place, AtIdent, AtBegin, AtProgram, AtSeed, AtKey, AtErase, AtDownload, AtBlock, AtExit, AtCheck, AtMark, AtFinish, AtReset, AtDone, AtEnd}
use Rattle.run_model.specs.Talk.{Talk, talk_lost, keeps_on_loss}
use Rattle.unit_model.specs.Vehicle.{Vehicle}
use Rattle.bay_core.proofs.Allowed.{sent_facts, collected_facts, begin_facts, mark_facts, finish_facts, claim_facts, open_none}
use Rattle.bay_core.proofs.Links.{Steps}
use Rattle.bay_core.specs.Core.{Slot, Core, core_after, with_slot, with_talk, slots_own, recorded_after, link_after, stop_after, refused_stop, is_disk_failure}
use Rattle.bay_core.specs.Legal.{is_allowed, is_end, is_stop, is_memory, is_blocked, is_blocker, may_record, without_failures}
use Rattle.bay_core.specs.declared.event.Event.{Event}
use Rattle.bay_core.specs.declared.event.Event.TheVariants.{Claimed, Began, Sent, Collected, Tended, Marked, Completed, DiskFailed, Ended}
use Rattle.outcome_law.proofs.Growing.{VehicleGrows, rose_then}
use Rattle.outcome_law.specs.LinkCounting.{IsPhaseCounted, IsLinkCounted}
use Rattle.outcome_law.specs.OutcomeCounting.{Rests, IsStopCounted, StopCounted}
use Rattle.outcome_law.specs.Outcomes.{IsBlockedBy}
use Rattle.flash_plan.proofs.Marks.{each_of}

-- ------ outcomes that compare as equal are
same_is : (a b : Outcome) → same_outcome a b ≡ true → a ≡ b
same_is Complete Complete e = refl
same_is (IdentMismatch a) (IdentMismatch b) e = λ i. IdentMismatch (eqb-true a b e i)
same_is (Refused a b) (Refused c d) e = let p = and_parts (a == c) (b == d) e in λ i. Refused (eqb-true a c p.0 i) (eqb-true b d p.1 i)
same_is (BadAnswer a) (BadAnswer b) e = λ i. BadAnswer (eqb-true a b e i)
same_is (CheckFailed a b c) (CheckFailed d f g) e =
    let p = and_parts (a == d && b == f) (c == g) e in
    let q = and_parts (a == d) (b == f) p.0 in
    λ i. CheckFailed (eqb-true a d q.0 i) (eqb-true b f q.1 i) (eqb-true c g p.1 i)
same_is (Undelivered a) (Undelivered b) e = λ i. Undelivered (eqb-true a b e i)
same_is (NoAnswer a) (NoAnswer b) e = λ i. NoAnswer (eqb-true a b e i)
same_is (PendingLimit a) (PendingLimit b) e = λ i. PendingLimit (eqb-true a b e i)
same_is (BusyLimit a) (BusyLimit b) e = λ i. BusyLimit (eqb-true a b e i)
same_is (LinkLost a) (LinkLost b) e = λ i. LinkLost (eqb-true a b e i)
same_is (LinkRefused a) (LinkRefused b) e = λ i. LinkRefused (eqb-true a b e i)
same_is (Blocked a) (Blocked b) e = λ i. Blocked (eqb-true a b e i)
same_is DiskFault DiskFault e = refl
same_is NoMemory NoMemory e = refl
same_is a b e = absurd (false≢true e)

end_is : (p : Place) (o : Outcome) → is_end p o ≡ true → p ≡ AtEnd o
end_is (AtEnd said) o e = ap (λ (x : Outcome). AtEnd x) (same_is said o e)
end_is (AtIdent w ws) o e = absurd (false≢true e)
end_is AtBegin o e = absurd (false≢true e)
end_is AtProgram o e = absurd (false≢true e)
end_is (AtSeed level) o e = absurd (false≢true e)
end_is (AtKey level seed) o e = absurd (false≢true e)
end_is (AtErase c) o e = absurd (false≢true e)
end_is (AtDownload c) o e = absurd (false≢true e)
end_is (AtBlock c b) o e = absurd (false≢true e)
end_is (AtExit c) o e = absurd (false≢true e)
end_is (AtCheck c) o e = absurd (false≢true e)
end_is (AtMark c) o e = absurd (false≢true e)
end_is AtFinish o e = absurd (false≢true e)
end_is AtReset o e = absurd (false≢true e)
end_is AtDone o e = absurd (false≢true e)

stop_is : (s : Option Outcome) (o : Outcome) → is_stop s o ≡ true → s ≡ Some o
stop_is None o e = absurd (false≢true e)
stop_is (Some said) o e = ap (λ (x : Outcome). Some x) (same_is said o e)

memory_is : (o : Outcome) → is_memory o ≡ true → o ≡ NoMemory
memory_is NoMemory e = refl
memory_is Complete e = absurd (false≢true e)
memory_is (IdentMismatch a) e = absurd (false≢true e)
memory_is (Refused a b) e = absurd (false≢true e)
memory_is (BadAnswer a) e = absurd (false≢true e)
memory_is (CheckFailed a b c) e = absurd (false≢true e)
memory_is (Undelivered a) e = absurd (false≢true e)
memory_is (NoAnswer a) e = absurd (false≢true e)
memory_is (PendingLimit a) e = absurd (false≢true e)
memory_is (BusyLimit a) e = absurd (false≢true e)
memory_is (LinkLost a) e = absurd (false≢true e)
memory_is (LinkRefused a) e = absurd (false≢true e)
memory_is (Blocked a) e = absurd (false≢true e)
memory_is DiskFault e = absurd (false≢true e)

-- ------ the unit that blocks another
first_or : (x w : ℕ) (ws : List ℕ) → Contains (w ∷ ws) x → (w ≡ x) ⊎ Contains ws x
first_or x w ws (k, lt, is) = at k lt is
  where
    at : (k : ℕ) → k < suc (length ws) → slice_index_or (w ∷ ws) k x ≡ x → (w ≡ x) ⊎ Contains ws x
    at zero lt is = inl is
    at (suc k) lt is = inr (k, omega (arith, lt), is)

pub record Blocks (c : Core) (after : List ℕ) (by : ℕ) : Type 0 where
  pub listed : Contains after by
  pub incomplete : c.recorded (entry.Complete by) ≡ false
  pub lowest : (w : ℕ) → Contains after w → w < by → c.recorded (entry.Complete w) ≡ true
  pub ended : is_some (c.slots by).outcome ≡ true

blocker_is : (c : Core) (ws : List ℕ) (by : ℕ) → Ascend ws → is_blocker c ws by ≡ true → Blocks c ws by
blocker_is c [] by up e = absurd (false≢true e)
blocker_is c (w ∷ ws) by up e = elim (cases_Bool (c.recorded (entry.Complete w))) [
  | inl done ↦
      let rest = blocker_is c ws by up.1 (rw done at e) in
      record {
        listed = (suc rest.listed.0, (let lt : rest.listed.0 < length ws = rest.listed.1 in omega (arith, lt)), rest.listed.2);
        incomplete = rest.incomplete;
        lowest = λ x has lt. elim (first_or x w ws has) [ inl is ↦ subst (λ (k : ℕ). c.recorded (entry.Complete k) ≡ true) is done | inr later ↦ rest.lowest x later lt ];
        ended = rest.ended;
      }
  | inr not_done ↦
      let parts = and_parts (w == by) (is_some (c.slots w).outcome) (rw not_done at e) in
      let is : w ≡ by = eqb-true w by parts.0 in
      record {
        listed = (0, omega arith, is);
        incomplete = subst (λ (k : ℕ). c.recorded (entry.Complete k) ≡ false) is not_done;
        lowest = λ x has lt. elim (first_or x w ws has) [
          | inl same ↦ absurd (omega (arith, same, is, lt))
          | inr later ↦ (let gt : w < x = each_of (λ y. w < y) ws x up.0 later in absurd (omega (arith, gt, is, lt)))
        ];
        ended = subst (λ (k : ℕ). is_some (c.slots k).outcome ≡ true) is parts.1;
      }
]

blocked_is : (P : List UnitPlan) (c : Core) (u : ℕ) (o : Outcome) → Ascend (plan_of P u).after → is_blocked P c u o ≡ true → (by : ℕ) × (o ≡ Blocked by) × IsBlockedBy (plan_of P u) c by
blocked_is P c u (Blocked by) up e = let b = blocker_is c (plan_of P u).after by up e in (by, refl, record { listed = b.listed; incomplete = b.incomplete; lowest = b.lowest; ended = b.ended })
blocked_is P c u Complete up e = absurd (false≢true e)
blocked_is P c u (IdentMismatch a) up e = absurd (false≢true e)
blocked_is P c u (Refused a b) up e = absurd (false≢true e)
blocked_is P c u (BadAnswer a) up e = absurd (false≢true e)
blocked_is P c u (CheckFailed a b d) up e = absurd (false≢true e)
blocked_is P c u (Undelivered a) up e = absurd (false≢true e)
blocked_is P c u (NoAnswer a) up e = absurd (false≢true e)
blocked_is P c u (PendingLimit a) up e = absurd (false≢true e)
blocked_is P c u (BusyLimit a) up e = absurd (false≢true e)
blocked_is P c u (LinkLost a) up e = absurd (false≢true e)
blocked_is P c u (LinkRefused a) up e = absurd (false≢true e)
blocked_is P c u DiskFault up e = absurd (false≢true e)
blocked_is P c u NoMemory up e = absurd (false≢true e)

-- ------ what an outcome rests on
pub more_recorded : (e : Event) (records : Entry → Bool) (x : Entry) → records x ≡ true → recorded_after e records x ≡ true
more_recorded (Claimed u) records x is = is
more_recorded (Began u) records x is = or_right _ (records x) is
more_recorded (Sent u place lost) records x is = is
more_recorded (Collected u h) records x is = is
more_recorded (Tended step) records x is = is
more_recorded (Marked u s) records x is = or_right _ (records x) is
more_recorded (Completed u) records x is = or_right _ (records x) is
more_recorded (DiskFailed u entry) records x is = is
more_recorded (Ended u why) records x is = is

stop_stays : (s : Option Outcome) (o : Outcome) (e : Event) (rules : LinkRules) (l : Link) → s ≡ Some o → stop_after s e rules l ≡ Some o
stop_stays s o e rules l is = ap (λ (x : Option Outcome). stop_after x e rules l) is

lost_end : (plan : UnitPlan) (begun : Bool) (t : Talk) (o : Outcome) → t.place ≡ AtEnd o → (talk_lost plan begun t).place ≡ AtEnd o
lost_end plan begun t o is = let keeps : keeps_on_loss t.place ≡ true = ap keeps_on_loss is in rw keeps is

module _ (rules : LinkRules) (P : List UnitPlan) (c : Core) (accepted : IsAccepted P) (e : Event) (ok : is_allowed P c e ≡ true) where
  -- a slot behind a loss, or without one
  by_loss : (Q : Slot → Type 0) (n : ℕ) → Q (slots_own rules P e c n) → Q (with_talk (talk_lost (plan_of P n) (recorded_after e c.recorded (entry.Begun n))) (slots_own rules P e c n)) → Q ((core_after rules P e c).slots n)
  by_loss Q n own lost = elim (cases_Bool (nat_lt c.link.losses (link_after rules P e c.link).losses)) [ inl x ↦ rw x lost | inr x ↦ rw x own ]

  same_outcome_after : (n : ℕ) → ((core_after rules P e c).slots n).outcome ≡ (slots_own rules P e c n).outcome
  same_outcome_after n = by_loss (λ s. s.outcome ≡ (slots_own rules P e c n).outcome) n refl refl

  same_fault_after : (n : ℕ) → ((core_after rules P e c).slots n).faulted ≡ (slots_own rules P e c n).faulted
  same_fault_after n = by_loss (λ s. s.faulted ≡ (slots_own rules P e c n).faulted) n refl refl

  end_after : (n : ℕ) (o : Outcome) → (slots_own rules P e c n).talk.place ≡ AtEnd o → ((core_after rules P e c).slots n).talk.place ≡ AtEnd o
  end_after n o is = by_loss (λ s. s.talk.place ≡ AtEnd o) n is (lost_end (plan_of P n) (recorded_after e c.recorded (entry.Begun n)) (slots_own rules P e c n).talk o is)

none_some : (o : Outcome) (s : Slot) → s.outcome ≡ None → s.outcome ≡ Some o → ⊥
none_some o s a b = false≢true (ap (is_some {T = Outcome}) (sym a ∙ b))

with_other : (u n : ℕ) (s : Slot) (slots : ℕ → Slot) → (n == u) ≡ false → with_slot u s slots n ≡ slots n
with_other u n s slots e = rw e refl

with_own : (u n : ℕ) (s : Slot) (slots : ℕ → Slot) → (n == u) ≡ true → with_slot u s slots n ≡ s
with_own u n s slots e = rw e refl

-- ------ an event
module _ (rules : LinkRules) (P : List UnitPlan) (c : Core) (accepted : IsAccepted P) where
  own_some : (u n : ℕ) (s : Slot) → (is_some (c.slots u).outcome ≡ true → is_some s.outcome ≡ true) → is_some (c.slots n).outcome ≡ true → is_some (with_slot u s c.slots n).outcome ≡ true
  own_some u n s own some = elim (cases_Bool (n == u)) [
    | inl e ↦ rw e (own (ap (λ (k : ℕ). is_some (c.slots k).outcome) (sym (eqb-true n u e)) ∙ some))
    | inr e ↦ rw e some
  ]

  own_outcome : (e : Event) (n : ℕ) → is_some (c.slots n).outcome ≡ true → is_some (slots_own rules P e c n).outcome ≡ true
  own_outcome (Claimed u) n some = own_some u n _ (λ x. x) some
  own_outcome (Began u) n some = own_some u n _ (λ x. x) some
  own_outcome (Sent u place lost) n some = own_some u n _ (λ x. x) some
  own_outcome (Collected u h) n some = own_some u n _ (λ x. x) some
  own_outcome (Tended step) n some = some
  own_outcome (Marked u s) n some = own_some u n _ (λ x. x) some
  own_outcome (Completed u) n some = own_some u n _ (λ x. refl) some
  own_outcome (DiskFailed u entry) n some = own_some u n _ (λ x. x) some
  own_outcome (Ended u why) n some = own_some u n _ (λ x. refl) some

  -- a unit that has an outcome is not recorded complete any more
  complete_same : (e : Event) → is_allowed P c e ≡ true → (n : ℕ) → is_some (c.slots n).outcome ≡ true → recorded_after e c.recorded (entry.Complete n) ≡ c.recorded (entry.Complete n)
  complete_same (Claimed u) ok n some = refl
  complete_same (Began u) ok n some = refl
  complete_same (Sent u place lost) ok n some = refl
  complete_same (Collected u h) ok n some = refl
  complete_same (Tended step) ok n some = refl
  complete_same (Marked u s) ok n some = refl
  complete_same (DiskFailed u entry) ok n some = refl
  complete_same (Ended u why) ok n some = refl
  complete_same (Completed u) ok n some = elim (cases_Bool (n == u)) [
    | inl e ↦ absurd (false≢true (ap (is_some {T = Outcome}) (sym (open_none P c u (finish_facts P c u ok).opened)) ∙ ap (λ (k : ℕ). is_some (c.slots k).outcome) (sym (eqb-true n u e)) ∙ some))
    | inr e ↦ rw e refl
  ]

  -- what an outcome rests on stays
  rest_on : (e : Event) → is_allowed P c e ≡ true → (n : ℕ) (o : Outcome) → ((c.slots n).talk.place ≡ AtEnd o → (slots_own rules P e c n).talk.place ≡ AtEnd o) → ((c.slots n).faulted ≡ true → (slots_own rules P e c n).faulted ≡ true) → Rests P c n o → Rests P (core_after rules P e c) n o
  rest_on e ok n o place fault (inl at) = inl (end_after rules P c accepted e ok n o (place at))
  rest_on e ok n o place fault (inr (inl (f, is))) = inr (inl (same_fault_after rules P c accepted e ok n ∙ fault f, is))
  rest_on e ok n o place fault (inr (inr (inl stop))) = inr (inr (inl (stop_stays c.halt.stop o e rules (link_after rules P e c.link) stop)))
  rest_on e ok n o place fault (inr (inr (inr (inl none)))) = inr (inr (inr (inl none)))
  rest_on e ok n o place fault (inr (inr (inr (inr (inl (by, is, b)))))) = inr (inr (inr (inr (inl (
    by,
    is,
    record {
      listed = b.listed;
      incomplete = complete_same e ok by b.ended ∙ b.incomplete;
      lowest = λ w has lt. more_recorded e c.recorded (entry.Complete w) (b.lowest w has lt);
      ended = ap (is_some {T = Outcome}) (same_outcome_after rules P c accepted e ok by) ∙ own_outcome e by b.ended;
    },
  )))))
  rest_on e ok n o place fault (inr (inr (inr (inr (inr (is, done)))))) = inr (inr (inr (inr (inr (is, more_recorded e c.recorded (entry.Complete n) done)))))

  some_of : (a b : Outcome) → Some a ≡ Some b → a ≡ b
  some_of a b e = ap (λ (x : Option Outcome). unwrap_or x a) e

  -- by whose slot it is: the own unit had no outcome, so that none stands
  by_none : (e : Event) → is_allowed P c e ≡ true → (u n : ℕ) (s : Slot) (o : Outcome) → slots_own rules P e c n ≡ with_slot u s c.slots n → s.outcome ≡ (c.slots u).outcome → (c.slots u).outcome ≡ None
      → ((core_after rules P e c).slots n).outcome ≡ Some o → ((c.slots n).outcome ≡ Some o → Rests P c n o) → Rests P (core_after rules P e c) n o
  by_none e ok u n s o is same none at old = elim (cases_Bool (n == u)) [
    | inl x ↦ absurd (none_some o s (same ∙ none) (ap (λ (y : Slot). y.outcome) (sym (is ∙ with_own u n s c.slots x)) ∙ sym (same_outcome_after rules P c accepted e ok n) ∙ at))
    | inr x ↦
        let slot : slots_own rules P e c n ≡ c.slots n = is ∙ with_other u n s c.slots x in
        rest_on e ok n o (λ p. ap (λ (y : Slot). y.talk.place) slot ∙ p) (λ f. ap (λ (y : Slot). y.faulted) slot ∙ f) (old (ap (λ (y : Slot). y.outcome) (sym slot) ∙ sym (same_outcome_after rules P c accepted e ok n) ∙ at))
  ]

  record_none : (u : ℕ) (x : Entry) → may_record P c u x ≡ true → (c.slots u).outcome ≡ None
  record_none u (entry.Begun w) ok = open_none P c u (begin_facts P (without_failures c) u (and_parts _ _ ok).1).opened
  record_none u (entry.Marked w s) ok = open_none P c u (mark_facts P (without_failures c) u s (and_parts _ _ ok).1).opened
  record_none u (entry.Complete w) ok = open_none P c u (finish_facts P (without_failures c) u (and_parts _ _ ok).1).opened

  ended_rests : (u : ℕ) (why : Outcome) → u < count_of P → is_allowed P c (Ended u why) ≡ true → Rests P c u why
  ended_rests u why lt ok = elim (or_cases _ _ (and_parts _ _ ok).1) [
    | inr blocked ↦ inr (inr (inr (inr (inl (blocked_is P c u why (accepted.each u lt).ascend blocked)))))
    | inl three ↦ elim (or_cases _ _ three) [
      | inr memory ↦ inr (inr (inr (inl (memory_is why memory))))
      | inl two ↦ elim (or_cases _ _ two) [
        | inl end ↦ inl (end_is (c.slots u).talk.place why (and_parts _ _ end).1)
        | inr stop ↦ stopped (c.slots u).faulted refl stop
      ]
    ]
  ]
    where
      stopped : (f : Bool) → (c.slots u).faulted ≡ f → (if f then same_outcome DiskFault why else is_stop c.halt.stop why) ≡ true → Rests P c u why
      stopped true f e = inr (inl (f, sym (same_is DiskFault why e)))
      stopped false f e = inr (inr (inl (stop_is c.halt.stop why e)))

  pub rests_step : (e : Event) → is_allowed P c e ≡ true → (n : ℕ) (o : Outcome) → n < count_of P → ((core_after rules P e c).slots n).outcome ≡ Some o → ((c.slots n).outcome ≡ Some o → Rests P c n o) → Rests P (core_after rules P e c) n o
  rests_step (Claimed u) ok n o lt at old = by_none (Claimed u) ok u n _ o refl refl (claim_facts P c u (and_parts _ _ (and_parts _ _ ok).0).1).none at old
  rests_step (Began u) ok n o lt at old = by_none (Began u) ok u n _ o refl refl (open_none P c u (begin_facts P c u ok).opened) at old
  rests_step (Sent u place lost) ok n o lt at old = by_none (Sent u place lost) ok u n _ o refl refl (sent_facts P c u place lost ok).none at old
  rests_step (Collected u h) ok n o lt at old = by_none (Collected u h) ok u n _ o refl refl (collected_facts P c u h ok).none at old
  rests_step (Tended step) ok n o lt at old = rest_on (Tended step) ok n o (λ p. p) (λ f. f) (old (sym (same_outcome_after rules P c accepted (Tended step) ok n) ∙ at))
  rests_step (Marked u s) ok n o lt at old = by_none (Marked u s) ok u n _ o refl refl (open_none P c u (mark_facts P c u s ok).opened) at old
  rests_step (DiskFailed u x) ok n o lt at old = by_none (DiskFailed u x) ok u n _ o refl refl (record_none u x ok) at old
  rests_step (Completed u) ok n o lt at old = elim (cases_Bool (n == u)) [
    | inl e ↦
        let is : o ≡ Complete = sym (some_of Complete o (ap (λ (y : Slot). y.outcome) (sym (with_own u n (record (c.slots u) { outcome = Some Complete }) c.slots e)) ∙ sym (same_outcome_after rules P c accepted (Completed u) ok n) ∙ at)) in
        inr (inr (inr (inr (inr (is, ap (λ (b : Bool). b || c.recorded (entry.Complete n)) e)))))
    | inr e ↦
        let slot : slots_own rules P (Completed u) c n ≡ c.slots n = with_other u n _ c.slots e in
        rest_on (Completed u) ok n o (λ p. ap (λ (y : Slot). y.talk.place) slot ∙ p) (λ f. ap (λ (y : Slot). y.faulted) slot ∙ f) (old (ap (λ (y : Slot). y.outcome) (sym slot) ∙ sym (same_outcome_after rules P c accepted (Completed u) ok n) ∙ at))
  ]
  rests_step (Ended u why) ok n o lt at old = elim (cases_Bool (n == u)) [
    | inl e ↦
        let here : n ≡ u = eqb-true n u e in
        let slot : slots_own rules P (Ended u why) c n ≡ record (c.slots u) { outcome = Some why } = with_own u n (record (c.slots u) { outcome = Some why }) c.slots e in
        let is : why ≡ o = some_of why o (ap (λ (y : Slot). y.outcome) (sym slot) ∙ sym (same_outcome_after rules P c accepted (Ended u why) ok n) ∙ at) in
        let rests : Rests P c n o = subst (λ (x : ℕ × Outcome). Rests P c x.0 x.1) (λ i. (sym here i, is i)) (ended_rests u why (subst (λ (k : ℕ). k < count_of P) here lt) ok) in
        rest_on (Ended u why) ok n o (λ p. ap (λ (y : Slot). y.talk.place) slot ∙ ap (λ (k : ℕ). (c.slots k).talk.place) (sym here) ∙ p) (λ f. ap (λ (y : Slot). y.faulted) slot ∙ ap (λ (k : ℕ). (c.slots k).faulted) (sym here) ∙ f) rests
    | inr e ↦
        let slot : slots_own rules P (Ended u why) c n ≡ c.slots n = with_other u n _ c.slots e in
        rest_on (Ended u why) ok n o (λ p. ap (λ (y : Slot). y.talk.place) slot ∙ p) (λ f. ap (λ (y : Slot). y.faulted) slot ∙ f) (old (ap (λ (y : Slot). y.outcome) (sym slot) ∙ sym (same_outcome_after rules P c accepted (Ended u why) ok n) ∙ at))
  ]

  -- a unit is faulted only where an append failed
  own_fault : (u n : ℕ) (s : Slot) → (s.faulted ≡ (c.slots u).faulted) → (with_slot u s c.slots n).faulted ≡ (c.slots n).faulted
  own_fault u n s same = elim (cases_Bool (n == u)) [
    | inl e ↦ rw e (same ∙ ap (λ (k : ℕ). (c.slots k).faulted) (sym (eqb-true n u e)))
    | inr e ↦ rw e refl
  ]

  fault_own : (e : Event) (n : ℕ) → (slots_own rules P e c n).faulted ≡ true → ((c.slots n).faulted ≡ true) ⊎ (is_disk_failure e ≡ true)
  fault_own (Claimed u) n f = inl (sym (own_fault u n _ refl) ∙ f)
  fault_own (Began u) n f = inl (sym (own_fault u n _ refl) ∙ f)
  fault_own (Sent u place lost) n f = inl (sym (own_fault u n _ refl) ∙ f)
  fault_own (Collected u h) n f = inl (sym (own_fault u n _ refl) ∙ f)
  fault_own (Tended step) n f = inl f
  fault_own (Marked u s) n f = inl (sym (own_fault u n _ refl) ∙ f)
  fault_own (Completed u) n f = inl (sym (own_fault u n _ refl) ∙ f)
  fault_own (DiskFailed u entry) n f = inr refl
  fault_own (Ended u why) n f = inl (sym (own_fault u n _ refl) ∙ f)

  pub fault_step : (e : Event) → is_allowed P c e ≡ true → (n : ℕ) → ((core_after rules P e c).slots n).faulted ≡ true → ((c.slots n).faulted ≡ true) ⊎ (is_disk_failure e ≡ true)
  fault_step e ok n f = fault_own e n (sym (same_fault_after rules P c accepted e ok n) ∙ f)

-- ------ what stopped the run
stop_on : (rules : LinkRules) (failed failed2 : Bool) (faults more : ℕ) (first v w : Vehicle) (o : Outcome) → (failed ≡ true → failed2 ≡ true) → VehicleGrows v w → IsStopCounted rules failed faults first v o → IsStopCounted rules failed2 (faults + more) first w o
stop_on rules failed failed2 faults more first v w (LinkLost times) on grow (is, (k, losses, count)) = (is, (k, omega (arith, losses), rose_then _ _ _ _ count grow.silent))
stop_on rules failed failed2 faults more first v w (LinkRefused code) on grow rose = rose_then _ _ _ _ rose (grow.denied code)
stop_on rules failed failed2 faults more first v w DiskFault on grow is = on is
stop_on rules failed failed2 faults more first v w Complete on grow is = absurd is
stop_on rules failed failed2 faults more first v w (IdentMismatch a) on grow is = absurd is
stop_on rules failed failed2 faults more first v w (Refused a b) on grow is = absurd is
stop_on rules failed failed2 faults more first v w (BadAnswer a) on grow is = absurd is
stop_on rules failed failed2 faults more first v w (CheckFailed a b c) on grow is = absurd is
stop_on rules failed failed2 faults more first v w (Undelivered a) on grow is = absurd is
stop_on rules failed failed2 faults more first v w (NoAnswer a) on grow is = absurd is
stop_on rules failed failed2 faults more first v w (PendingLimit a) on grow is = absurd is
stop_on rules failed failed2 faults more first v w (BusyLimit a) on grow is = absurd is
stop_on rules failed failed2 faults more first v w (Blocked a) on grow is = absurd is
stop_on rules failed failed2 faults more first v w NoMemory on grow is = absurd is

refused_counted : (rules : LinkRules) (failed : Bool) (faults losses : ℕ) (first w : Vehicle) (p : Phase) → losses ≤ rules.relinks → IsPhaseCounted first.gateway.denied w.gateway.denied p → StopCounted rules failed faults first w losses (refused_stop p)
refused_counted rules failed faults losses first w phase.Down few is = few
refused_counted rules failed faults losses first w phase.Dialed few is = few
refused_counted rules failed faults losses first w phase.Asked few is = few
refused_counted rules failed faults losses first w phase.Up few is = few
refused_counted rules failed faults losses first w (phase.Refused code) few is = is

pub stop_step : (rules : LinkRules) (e : Event) (l l2 : Link) (s : Option Outcome) (failed failed2 : Bool) (faults more : ℕ) (first v w : Vehicle) → Steps l l2 → VehicleGrows v w → (failed ≡ true → failed2 ≡ true) → (is_disk_failure e ≡ true → failed2 ≡ true)
    → StopCounted rules failed faults first v l.losses s → IsLinkCounted l2 (faults + more) first w → StopCounted rules failed2 (faults + more) first w l2.losses (stop_after s e rules l2)
stop_step rules e l l2 (Some o) failed failed2 faults more first v w steps grow on fails is link = stop_on rules failed failed2 faults more first v w o on grow is
stop_step rules e l l2 None failed failed2 faults more first v w steps grow on fails is link = elim (cases_Bool (is_disk_failure e)) [
  | inl f ↦ rw f (fails f)
  | inr f ↦ rw f (elim (cases_Bool (nat_lt rules.relinks l2.losses)) [
    | inl many ↦
        let over : rules.relinks < l2.losses = ltb-true rules.relinks l2.losses many in
        let one : l2.losses ≤ l.losses + 1 = at_most steps in
        let covered : l2.losses ≤ faults + more + link.losses.silent = link.losses.losses in
        rw many (omega (arith, over, one, is), (link.losses.silent, omega (arith, over, covered), link.losses.count))
    | inr few ↦ rw few (refused_counted rules failed2 (faults + more) l2.losses first w l2.phase (ltb-false rules.relinks l2.losses few) link.denied)
  ])
]
  where
    at_most : Steps l l2 → l2.losses ≤ l.losses + 1
    at_most (inl d) = let x : l2.losses ≡ l.losses + 1 = d.1 in omega (arith, x)
    at_most (inr k) = let x : l2.losses ≡ l.losses = k.0 in omega (arith, x)
