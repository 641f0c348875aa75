-- What the tests on drafts say of the answer.
use Rattle.std.proofs.Common.{◌≡◌, ℕ, zero, suc, ◌+◌, ◌<◌, ◌≤◌, Bool, true, false, List, [], ◌∷◌, length, Some, None, Err, if◌then◌else◌, sym, ap, subst, arith}
use Rattle.std.proofs.lemmas.List.{length-map}
use Rattle.flash_base.specs.Lists.{Each}
use Rattle.flash_plan.specs.declared.fault.PlanFault.TheVariants.{SameUnit}
use Rattle.flash_plan.specs.declared.unit.Draft.{Draft}
use Rattle.flash_plan.specs.declared.unit.UnitPlan.{UnitPlan}
use Rattle.flash_plan.specs.Accepting.{draft_of, first_from, first_task, has_same_name, has_same_address, has_unknown, too_many, unit_of, units_of, IsPlanAnswer, IsDraft, IsNamed, IsAddressed, IsKnown, IsOrdered, IsFirstCycle}
use Rattle.flash_plan.specs.Cycles.{AreWithin, IsFirstCycleTest}
use Rattle.flash_plan.specs.Plan.{IsWidth}
use Rattle.flash_plan.proofs.Accepted.{few_is, IsFew, after_within}

pub few_drafts : (ds : List Draft) → too_many ds ≡ None → length ds ≤ 64
few_drafts ds h = let f : IsFew ds = few_is ds h in f.few

-- ------ the number that a test is first true of
first_step : (n k m : ℕ) (test : ℕ → Bool) (b : Bool) → (if b then Some n else first_from (n + 1) k test) ≡ Some m → (first_from (n + 1) k test ≡ Some m → m < n + 1 + k) → m < n + suc k
first_step n k m test true h later = let same : n ≡ m = some_same n m h in omega (arith, same)
  where
    some_same : (x y : ℕ) → Some x ≡ Some y → x ≡ y
    some_same x y e = cc
first_step n k m test false h later = omega (arith, later h)

first_within : (n k m : ℕ) (test : ℕ → Bool) → first_from n k test ≡ Some m → m < n + k
first_within n zero m test h = absurd (wrong h)
  where
    wrong : None ≡ Some m → ⊥
    wrong e = cc
first_within n (suc k) m test h = first_step n k m test (test n) h (λ g. first_within (n + 1) k m test g)

pub task_within : (ds : List Draft) (test : ℕ → Bool) (m : ℕ) → first_task ds test ≡ Some m → m < length ds
task_within ds test m h = omega (arith, first_within 0 (length ds) m test h)

-- ------ names and numbers
pub named : (ds : List Draft) → too_many ds ≡ None → first_task ds (has_same_name ds) ≡ None → IsNamed ds
named ds few names = record { few = few; names = names }

pub known : (ds : List Draft) → IsNamed ds → first_task ds (has_same_address ds) ≡ None → first_task ds (has_unknown ds) ≡ None → IsKnown ds
known ds h addresses unknown = let a : IsAddressed ds = record { named = h; addresses = addresses } in record { addressed = a; known = unknown }

pub same_unit : (ds : List Draft) (n address : ℕ) → IsNamed ds → first_task ds (has_same_address ds) ≡ Some n → address ≡ (draft_of ds n).address → IsPlanAnswer ds (Err (SameUnit address))
same_unit ds n address h first e = (h, (n, first, e))

pub widths : (ds : List Draft) → Each IsDraft ds → Each (λ d. IsWidth d.width) ds
widths [] h = tt
widths (d ∷ ds) h = (h.0.width, widths ds h.1)

-- ------ cycles
pub few_units : (ds : List Draft) (us : List UnitPlan) → us ≡ units_of ds → IsKnown ds → length us ≤ 64
few_units ds us e h = omega (arith, ap length e, length-map ds (unit_of ds), few_drafts ds h.addressed.named.few)

pub units_within : (ds : List Draft) (us : List UnitPlan) → us ≡ units_of ds → AreWithin us
units_within ds us e = subst AreWithin (sym e) (after_within ds)

pub first_in_cycle : (ds : List Draft) (us : List UnitPlan) (n : ℕ) → us ≡ units_of ds → IsKnown ds → IsFirstCycleTest us (Some n) → IsFirstCycle ds n
first_in_cycle ds us n e h t =
    let c : IsFirstCycleTest (units_of ds) (Some n) = subst (λ P. IsFirstCycleTest P (Some n)) e t in
    let within : n < length ds = omega (arith, c.0, length-map ds (unit_of ds)) in
    record { known = h; within = within; cycle = c.1; first = c.2 }

pub ordered : (ds : List Draft) (us : List UnitPlan) → us ≡ units_of ds → IsKnown ds → IsFirstCycleTest us None → IsOrdered ds
ordered ds us e h t =
    let c : IsFirstCycleTest (units_of ds) None = subst (λ P. IsFirstCycleTest P None) e t in
    record { known = h; no_cycle = c }
