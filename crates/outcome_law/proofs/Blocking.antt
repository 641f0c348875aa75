-- Where nothing failed and every unit matches, each outcome is complete, but for want of memory: what blocks a unit is blocked
-- itself or lacked memory, and no unit stands before itself.
use Rattle.std.proofs.Common.{◌≡◌, ◌⊎◌, inl, inr, ℕ, zero, suc, ◌+◌, ◌<◌, ◌≤◌, true, false, List, [], ◌∷◌, length, Some, None, refl, sym, ◌∙◌, ap, subst, arith}
use Rattle.std.specs.Prelude.{Bool, Option, ◌==◌, is_some}
use Rattle.std.specs.List.{IsDistinct, AllByRecursion, list_any}
use Rattle.std.proofs.lemmas.Bool.{cases_Bool, false≢true, both_ways, eqb-true, ne_eqb}
use Rattle.std.proofs.lemmas.Map.Steps.{length-le_from_distinct_below}
use Rattle.flash_base.specs.Lists.{Each}
use Rattle.flash_plan.specs.Plan.{IsAccepted, StandsBefore, next_to, before, plan_of, count_of}
use Rattle.flash_plan.specs.declared.outcome.Entry.{Entry}
use Rattle.flash_plan.specs.declared.outcome.Entry.TheVariants as entry
use Rattle.flash_plan.specs.declared.outcome.Outcome.{Outcome}
use Rattle.flash_plan.specs.declared.outcome.Outcome.TheVariants.{Complete, IdentMismatch, Refused, BadAnswer, CheckFailed, Undelivered, NoAnswer, PendingLimit, BusyLimit, LinkLost, LinkRefused, DiskFault, NoMemory, Blocked}
use Rattle.flash_plan.specs.declared.unit.LinkRules.{LinkRules}
use Rattle.flash_plan.specs.declared.unit.UnitPlan.{UnitPlan}
use Rattle.unit_model.specs.Vehicle.{Vehicle}
use Rattle.run_model.specs.Troubles.{IsVehicleCalm}
use Rattle.bay_core.specs.Core.{Core, core_start, core_of}
use Rattle.bay_core.specs.Stops.{has_failure}
use Rattle.outcome_law.proofs.Recorded.{counted_law, ended_run, kept_untroubled}
use Rattle.outcome_law.proofs.Runs.{counted_run}
use Rattle.outcome_law.specs.Counting.{AreUnitsCounted}
use Rattle.outcome_law.specs.Keeping.{KeptCompleteLaw}
use Rattle.outcome_law.specs.Law.{last_vehicle}
use Rattle.outcome_law.specs.LinkCounting.{faults_of}
use Rattle.outcome_law.specs.OutcomeCounting.{AreOutcomesCounted}
use Rattle.outcome_law.specs.Outcomes.{IsBlockedBy, IsOutcomeCaused, IsCalmOutcome, AllMatch, LacksMemory, CompleteLaw}
use Rattle.flash_plan.proofs.Marks.{each_of}

-- ------ numbers below a bound, each once
all_apart : (n : ℕ) (vs : List ℕ) → Each (λ v. n ≡ v → ⊥) vs → AllByRecursion (λ y. (n == y) ≡ false) vs
all_apart n [] all = tt
all_apart n (v ∷ vs) all = (ne_eqb n v all.0, all_apart n vs all.1)

one_more : (n : ℕ) (vs : List ℕ) → Each (λ v. n ≡ v → ⊥) vs → IsDistinct (λ a b. a == b) vs → IsDistinct (λ a b. a == b) (n ∷ vs)
unfolding IsDistinct
one_more n vs all distinct = (all_apart n vs all, distinct)

none_yet : IsDistinct (λ (a b : ℕ). a == b) []
unfolding IsDistinct
none_yet = tt

any_below : (bound q : ℕ) (vs : List ℕ) → Each (λ v. v < bound) vs → list_any (λ x. q == x) vs ≡ true → q < bound
any_below bound q [] all e = absurd (false≢true e)
any_below bound q (v ∷ vs) all e = elim (cases_Bool (q == v)) [
  | inl f ↦ let is : q ≡ v = eqb-true q v f in let lt : v < bound = all.0 in omega (arith, is, lt)
  | inr f ↦ any_below bound q vs all.1 (rw f at e)
]

few : (bound : ℕ) (vs : List ℕ) → IsDistinct (λ a b. a == b) vs → Each (λ v. v < bound) vs → length vs ≤ bound
few bound vs distinct all = length-le_from_distinct_below vs bound distinct (λ q e. any_below bound q vs all e)

stands_on : (P : List UnitPlan) (w v u : ℕ) → StandsBefore P w v → StandsBefore P v u → StandsBefore P w u
stands_on P w v u a (next_to x c) = before x v c a
stands_on P w v u a (before x y c s) = before x y c (stands_on P w v y a s)

stands_all : (P : List UnitPlan) (w n : ℕ) (vs : List ℕ) → StandsBefore P w n → Each (StandsBefore P n) vs → Each (StandsBefore P w) vs
stands_all P w n [] a all = tt
stands_all P w n (v ∷ vs) a all = (stands_on P w n v a all.0, stands_all P w n vs a all.1)

apart_all : (P : List UnitPlan) (n : ℕ) (vs : List ℕ) → (StandsBefore P n n → ⊥) → Each (StandsBefore P n) vs → Each (λ v. n ≡ v → ⊥) vs
apart_all P n [] no_cycle all = tt
apart_all P n (v ∷ vs) no_cycle all = (λ is. no_cycle (subst (λ (k : ℕ). StandsBefore P n k) (sym is) all.0), apart_all P n vs no_cycle all.1)

module _ (rules : LinkRules) (P : List UnitPlan) (found : Entry → Bool) (c : Core) (failed : Bool) (faults : ℕ) (first now : Vehicle) (t0 : ℕ) (accepted : IsAccepted P)
    (units : AreUnitsCounted rules P found t0 c first now) (outcomes : AreOutcomesCounted rules P c failed faults first now) (fine : failed ≡ false) (none_failed : faults ≡ 0) (calm : IsVehicleCalm first now) (matching : AllMatch P found first) where
  abbrev Ends : Outcome → Type 0
  Ends o = (o ≡ Complete) ⊎ LacksMemory P c

  of_some : (o : Option Outcome) → is_some o ≡ true → (x : Outcome) × (o ≡ Some x)
  of_some None e = absurd (false≢true e)
  of_some (Some x) e = (x, refl)

  cause_of : (n : ℕ) (o : Outcome) → n < count_of P → (c.slots n).outcome ≡ Some o → IsOutcomeCaused rules (plan_of P n) found c n failed faults first now o
  cause_of n o lt at = counted_law rules P found c failed faults first now t0 n o lt units outcomes at

  untroubled_of : (n : ℕ) (o : Outcome) → n < count_of P → (c.slots n).outcome ≡ Some o → IsCalmOutcome o
  untroubled_of n o lt at = kept_untroubled rules P found c failed faults first now t0 n units fine none_failed calm (matching n lt) o (cause_of n o lt at)

  not_complete : (n : ℕ) (o : Outcome) → n < count_of P → (c.slots n).outcome ≡ Some o → c.recorded (entry.Complete n) ≡ false → o ≡ Complete → ⊥
  not_complete n o lt at none is = both_ways _ none (cause_of n Complete lt (at ∙ ap (λ (x : Outcome). Some x) is))

  -- from a unit to the one that blocks it; vs are those that it stands before
  along : (fuel : ℕ) (vs : List ℕ) (n : ℕ) (o : Outcome) → n < count_of P → IsDistinct (λ a b. a == b) vs → Each (λ v. v < count_of P) vs → Each (StandsBefore P n) vs → count_of P ≤ fuel + length vs
      → (c.slots n).outcome ≡ Some o → IsCalmOutcome o → IsOutcomeCaused rules (plan_of P n) found c n failed faults first now o → Ends o
  along fuel vs n Complete lt distinct below stands enough at is cause = inl refl
  along fuel vs n NoMemory lt distinct below stands enough at is cause = inr (record { unit = n; below = lt; none = at })
  along zero vs n (Blocked by) lt distinct below stands enough at is cause =
      let more : suc (length vs) ≤ count_of P = few (count_of P) (n ∷ vs) (one_more n vs (apart_all P n vs (accepted.no_cycle n) stands) distinct) (lt, below) in
      absurd (omega (arith, more, enough))
  along (suc fuel) vs n (Blocked by) lt distinct below stands enough at is cause =
      let blocked : IsBlockedBy (plan_of P n) c by = cause in
      let by_lt : by < count_of P = each_of (λ w. w < count_of P) (plan_of P n).after by (accepted.after n lt) blocked.listed in
      let next = of_some (c.slots by).outcome blocked.ended in
      let stands_by : StandsBefore P by n = next_to n blocked.listed in
      elim (along fuel (n ∷ vs) by next.0 by_lt (one_more n vs (apart_all P n vs (accepted.no_cycle n) stands) distinct) (lt, below) (stands_by, stands_all P by n vs stands_by stands) (omega (arith, enough)) next.1
      (untroubled_of by next.0 by_lt next.1) (cause_of by next.0 by_lt next.1)) [
        | inl complete ↦ absurd (not_complete by next.0 by_lt next.1 blocked.incomplete complete)
        | inr memory ↦ inr memory
      ]
  along fuel vs n (IdentMismatch did) lt distinct below stands enough at is cause = absurd is
  along fuel vs n (Refused sid nrc) lt distinct below stands enough at is cause = absurd is
  along fuel vs n (BadAnswer sid) lt distinct below stands enough at is cause = absurd is
  along fuel vs n (CheckFailed routine segment status) lt distinct below stands enough at is cause = absurd is
  along fuel vs n (Undelivered code) lt distinct below stands enough at is cause = absurd is
  along fuel vs n (NoAnswer sid) lt distinct below stands enough at is cause = absurd is
  along fuel vs n (PendingLimit sid) lt distinct below stands enough at is cause = absurd is
  along fuel vs n (BusyLimit sid) lt distinct below stands enough at is cause = absurd is
  along fuel vs n (LinkLost times) lt distinct below stands enough at is cause = absurd is
  along fuel vs n (LinkRefused code) lt distinct below stands enough at is cause = absurd is
  along fuel vs n DiskFault lt distinct below stands enough at is cause = absurd is

  pub kept_complete : (n : ℕ) (o : Outcome) → n < count_of P → (c.slots n).outcome ≡ Some o → (o ≡ Complete) ⊎ LacksMemory P c
  kept_complete n o lt at = along (count_of P) [] n o lt none_yet tt tt (omega arith) at (untroubled_of n o lt at) (cause_of n o lt at)

pub kept_complete_law : KeptCompleteLaw
kept_complete_law rules P found c failed faults first now t0 n o accepted units outcomes fine lt at matching =
    kept_complete rules P found c failed faults first now t0 accepted units outcomes fine.disk fine.link fine.vehicle matching n o lt at

pub complete_law : CompleteLaw
complete_law rules P found events s states n o run lt at failed faults calm matching =
    kept_complete rules P found (core_of rules P (core_start P found) events) (has_failure events) (faults_of events s states) s (last_vehicle s states) s.gateway.tick run.accepted
    (counted_run rules P found events s states run) (ended_run rules P found events s states run) failed faults calm matching n o lt at
