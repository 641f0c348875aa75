-- Claims, failed appends and outcomes that may still come.
use Rattle.std.proofs.Common.{◌≡◌, inl, inr, ℕ, zero, suc, ◌+◌, ◌*◌, ◌<◌, ◌≤◌, true, false, List, refl, sym, subst, arith}
use Rattle.std.specs.Prelude.{Bool, ◌==◌, nat_lt, not, is_none, if◌then◌else◌}
use Rattle.std.proofs.lemmas.Bool.{cases_Bool, cases_lt, eqb-true, eq-eqb, and_parts, false≢true}
use Rattle.bay_core.specs.Core.{Core, Slot, with_slot, slots_lost, slots_own, core_after, core_start, recorded_after, link_after}
use Rattle.bay_core.specs.Legal.{is_ready}
use Rattle.bay_core.specs.declared.event.Event.{Event}
use Rattle.bay_core.specs.declared.event.Event.TheVariants.{Claimed, Began, Sent, Collected, Tended, Marked, Completed, DiskFailed, Ended}
use Rattle.flash_plan.specs.Plan.{count_of}
use Rattle.flash_plan.specs.declared.outcome.Entry.{Entry}
use Rattle.flash_plan.specs.declared.outcome.Outcome.{Outcome}
use Rattle.flash_plan.specs.declared.unit.LinkRules.{LinkRules}
use Rattle.flash_plan.specs.declared.unit.UnitPlan.{UnitPlan}
use Rattle.flash_run.specs.Run.{sum_below, left_of, left_in}

sum_le : (n : ℕ) (f g : ℕ → ℕ) → ((k : ℕ) → g k ≤ f k) → sum_below n g ≤ sum_below n f
sum_le zero f g each = omega arith
sum_le (suc n) f g each = omega (arith, sum_le n f g each, each n)

sum_less : (n u : ℕ) (f g : ℕ → ℕ) → ((k : ℕ) → g k ≤ f k) → u < n → g u + 1 ≤ f u → sum_below n g + 1 ≤ sum_below n f
sum_less zero u f g each lt less = absurd (omega (arith, lt))
sum_less (suc n) u f g each lt less = elim (cases_lt u n) [
  | inl below ↦ omega (arith, sum_less n u f g each below less, each n)
  | inr le ↦ (let is : u ≡ n = omega (arith, le, lt) in let here : g n + 1 ≤ f n = subst (λ (k : ℕ). g k + 1 ≤ f k) is less in omega (arith, sum_le n f g each, here))
]

at_most_one : (b : Bool) → (if b then 0 else 1) ≤ 1
at_most_one true = omega arith
at_most_one false = omega arith

at_most_this : (b : Bool) → (if b then 1 else 0) ≤ 1
at_most_this true = omega arith
at_most_this false = omega arith

three : (s : Slot) → left_of s ≤ 4
three s = omega (arith, at_most_one s.claimed, at_most_one s.faulted, at_most_this (is_none s.outcome))

sum_four : (n : ℕ) (f : ℕ → ℕ) → ((k : ℕ) → f k ≤ 4) → sum_below n f ≤ 4 * n
sum_four zero f each = omega arith
sum_four (suc n) f each = omega (arith, sum_four n f each, each n)

pub start_left : (P : List UnitPlan) (found : Entry → Bool) → left_in P (core_start P found) ≤ 4 * count_of P
start_left P found = sum_four (count_of P) (λ n. left_of ((core_start P found).slots n)) (λ n. three ((core_start P found).slots n))

-- ------ one slot
left_lost : (P : List UnitPlan) (R : Entry → Bool) (lost : Bool) (slots : ℕ → Slot) (n : ℕ) → left_of (slots_lost P R lost slots n) ≡ left_of (slots n)
left_lost P R true slots n = refl
left_lost P R false slots n = refl

left_with : (u n : ℕ) (s : Slot) (slots : ℕ → Slot) → left_of s ≤ left_of (slots u) → left_of (with_slot u s slots n) ≤ left_of (slots n)
left_with u n s slots le = elim (cases_Bool (n == u)) [
  | inl e ↦ rw e (subst (λ (k : ℕ). left_of s ≤ left_of (slots k)) (sym (eqb-true n u e)) le)
  | inr e ↦ rw e (omega arith)
]

no_claim : (a : Bool) (x y : ℕ) → 0 + x + y ≤ (if a then 0 else 1) + x + y
no_claim true x y = omega arith
no_claim false x y = omega arith

no_fault : (a : Bool) (x y : ℕ) → x + 0 + y ≤ x + (if a then 0 else 1) + y
no_fault true x y = omega arith
no_fault false x y = omega arith

no_outcome : (x y : ℕ) (a : Bool) → x + y + 0 ≤ x + y + (if a then 1 else 0)
no_outcome x y true = omega arith
no_outcome x y false = omega arith

left_own : (rules : LinkRules) (P : List UnitPlan) (e : Event) (c : Core) (n : ℕ) → left_of (slots_own rules P e c n) ≤ left_of (c.slots n)
left_own rules P (Claimed u) c n = left_with u n _ c.slots (no_claim (c.slots u).claimed (if (c.slots u).faulted then 0 else 1) (if is_none (c.slots u).outcome then 1 else 0))
left_own rules P (Began u) c n = left_with u n _ c.slots (omega arith)
left_own rules P (Sent u place lost) c n = left_with u n _ c.slots (omega arith)
left_own rules P (Collected u h) c n = left_with u n _ c.slots (omega arith)
left_own rules P (Tended step) c n = omega arith
left_own rules P (Marked u s) c n = left_with u n _ c.slots (omega arith)
left_own rules P (Completed u) c n = left_with u n _ c.slots (no_outcome (if (c.slots u).claimed then 0 else 1) (if (c.slots u).faulted then 0 else 1) (is_none (c.slots u).outcome))
left_own rules P (DiskFailed u entry) c n = left_with u n _ c.slots (no_fault (c.slots u).faulted (if (c.slots u).claimed then 0 else 1) (if is_none (c.slots u).outcome then 1 else 0))
left_own rules P (Ended u why) c n = left_with u n _ c.slots (no_outcome (if (c.slots u).claimed then 0 else 1) (if (c.slots u).faulted then 0 else 1) (is_none (c.slots u).outcome))

left_slot : (rules : LinkRules) (P : List UnitPlan) (e : Event) (c : Core) (n : ℕ) → left_of ((core_after rules P e c).slots n) ≤ left_of (c.slots n)
left_slot rules P e c n = subst (λ (k : ℕ). k ≤ left_of (c.slots n)) (sym (left_lost P (recorded_after e c.recorded) (nat_lt c.link.losses (link_after rules P e c.link).losses) (slots_own rules P e c) n)) (left_own rules P e c n)

-- no event adds to what may still come
pub left_after : (rules : LinkRules) (P : List UnitPlan) (e : Event) (c : Core) → left_in P (core_after rules P e c) ≤ left_in P c
left_after rules P e c = sum_le (count_of P) (λ n. left_of (c.slots n)) (λ n. left_of ((core_after rules P e c).slots n)) (left_slot rules P e c)

-- an event that takes something of its own unit's away takes it of all
less_after : (rules : LinkRules) (P : List UnitPlan) (e : Event) (c : Core) (u : ℕ) → u < count_of P → left_of (slots_own rules P e c u) + 1 ≤ left_of (c.slots u) → left_in P (core_after rules P e c) + 1 ≤ left_in P c
less_after rules P e c u lt own =
    let here : left_of ((core_after rules P e c).slots u) + 1 ≤ left_of (c.slots u) = subst (λ (k : ℕ). k + 1 ≤ left_of (c.slots u)) (sym (left_lost P (recorded_after e c.recorded) (nat_lt c.link.losses (link_after rules P e c.link).losses) (slots_own rules P e c) u)) own in
    sum_less (count_of P) u (λ n. left_of (c.slots n)) (λ n. left_of ((core_after rules P e c).slots n)) (left_slot rules P e c) lt here

own_slot : (u : ℕ) (s : Slot) (slots : ℕ → Slot) → left_of s + 1 ≤ left_of (slots u) → left_of (with_slot u s slots u) + 1 ≤ left_of (slots u)
own_slot u s slots less = let same : (u == u) ≡ true = eq-eqb u u refl in rw same less

pub ready_fresh : (P : List UnitPlan) (c : Core) (u : ℕ) → is_ready P c u ≡ true → (c.slots u).claimed ≡ false
ready_fresh P c u ready = not_is (c.slots u).claimed (and_parts _ _ (and_parts _ _ ready).0).1
  where
    not_is : (b : Bool) → not b ≡ true → b ≡ false
    not_is true e = sym e
    not_is false e = refl

claim_less : (a : Bool) (x y : ℕ) → a ≡ false → 0 + x + y + 1 ≤ (if a then 0 else 1) + x + y
claim_less true x y e = absurd (false≢true (sym e))
claim_less false x y e = omega arith

fault_less : (a : Bool) (x y : ℕ) → a ≡ false → x + 0 + y + 1 ≤ x + (if a then 0 else 1) + y
fault_less true x y e = absurd (false≢true (sym e))
fault_less false x y e = omega arith

outcome_less : (x y : ℕ) (a : Bool) → a ≡ true → x + y + 0 + 1 ≤ x + y + (if a then 1 else 0)
outcome_less x y true e = omega arith
outcome_less x y false e = absurd (false≢true e)

-- a claim takes one away
pub left_claimed : (rules : LinkRules) (P : List UnitPlan) (c : Core) (u : ℕ) → u < count_of P → (c.slots u).claimed ≡ false → left_in P (core_after rules P (Claimed u) c) + 1 ≤ left_in P c
left_claimed rules P c u lt fresh =
    less_after rules P (Claimed u) c u lt (own_slot u _ c.slots (claim_less (c.slots u).claimed (if (c.slots u).faulted then 0 else 1) (if is_none (c.slots u).outcome then 1 else 0) fresh))

-- an outcome takes one away
pub left_ended : (rules : LinkRules) (P : List UnitPlan) (c : Core) (u : ℕ) (o : Outcome) → is_none (c.slots u).outcome ≡ true → u < count_of P → left_in P (core_after rules P (Ended u o) c) + 1 ≤ left_in P c
left_ended rules P c u o none lt =
    less_after rules P (Ended u o) c u lt (own_slot u _ c.slots (outcome_less (if (c.slots u).claimed then 0 else 1) (if (c.slots u).faulted then 0 else 1) (is_none (c.slots u).outcome) none))

pub left_completed : (rules : LinkRules) (P : List UnitPlan) (c : Core) (u : ℕ) → is_none (c.slots u).outcome ≡ true → u < count_of P → left_in P (core_after rules P (Completed u) c) + 1 ≤ left_in P c
left_completed rules P c u none lt =
    less_after rules P (Completed u) c u lt (own_slot u _ c.slots (outcome_less (if (c.slots u).claimed then 0 else 1) (if (c.slots u).faulted then 0 else 1) (is_none (c.slots u).outcome) none))

-- and so does an append that fails
pub left_failed : (rules : LinkRules) (P : List UnitPlan) (c : Core) (u : ℕ) (entry : Entry) → (c.slots u).faulted ≡ false → u < count_of P → left_in P (core_after rules P (DiskFailed u entry) c) + 1 ≤ left_in P c
left_failed rules P c u entry sound lt =
    less_after rules P (DiskFailed u entry) c u lt (own_slot u _ c.slots (fault_less (c.slots u).faulted (if (c.slots u).claimed then 0 else 1) (if is_none (c.slots u).outcome then 1 else 0) sound))
