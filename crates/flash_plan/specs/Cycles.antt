-- Which units stand before a unit, by marks, and the first unit that stands before itself.
use Rattle.std.specs.Prelude.{ℕ, zero, suc, ◌+◌, ◌<◌, Bool, true, false, ◌||◌, ◌==◌, List, [], ◌∷◌, length, get_or, Option, Some, None, if◌then◌else◌}
use Rattle.flash_base.specs.Lists.{Each}
use Rattle.flash_plan.specs.declared.unit.UnitPlan.{UnitPlan}
use Rattle.flash_plan.specs.Plan.{plan_of, count_of, StandsBefore}

-- ------ marks: one for each number, from 0
abbrev pub is_marked : List Bool → ℕ → Bool
is_marked ms n = get_or ms n false

abbrev pub unmarked : List Bool → ℕ
unmarked [] = 0
unmarked (true ∷ ms) = unmarked ms
unmarked (false ∷ ms) = suc (unmarked ms)

-- the first of some numbers that has no mark
abbrev pub first_open : List Bool → List ℕ → Option ℕ
first_open ms [] = None
first_open ms (w ∷ ws) = if is_marked ms w then first_open ms ws else Some w

-- ------ a unit that is not marked yet, and for which unit n or a marked unit waits
abbrev pub is_reached : ℕ → List Bool → ℕ → Bool
is_reached n ms u = u == n || is_marked ms u

abbrev pub open_of : List UnitPlan → ℕ → List Bool → ℕ → Option ℕ
open_of P n ms u = if is_reached n ms u then first_open ms (plan_of P u).after else None

abbrev pub or_else : Option ℕ → Option ℕ → Option ℕ
or_else None later = later
or_else (Some w) later = Some w

abbrev pub open_from : List UnitPlan → ℕ → List Bool → ℕ → ℕ → Option ℕ
open_from P n ms u zero = None
open_from P n ms u (suc k) = or_else (open_of P n ms u) (open_from P n ms (u + 1) k)

abbrev pub next_open : List UnitPlan → ℕ → List Bool → Option ℕ
next_open P n ms = open_from P n ms 0 (length P)

-- ------ cycles
-- each unit waits for units of the plan
abbrev pub AreWithin : List UnitPlan → Type 0
AreWithin P = (n : ℕ) → n < count_of P → Each (λ w. w < count_of P) (plan_of P n).after

-- whether a unit stands before itself
abbrev pub IsCycleTest : List UnitPlan → ℕ → Bool → Type 0
IsCycleTest P n true = StandsBefore P n n
IsCycleTest P n false = StandsBefore P n n → ⊥

-- the first that does
abbrev pub IsFirstCycleTest : List UnitPlan → Option ℕ → Type 0
IsFirstCycleTest P None = (n : ℕ) → StandsBefore P n n → ⊥
IsFirstCycleTest P (Some n) = (n < count_of P) × StandsBefore P n n
    × ((m : ℕ) → m < n → StandsBefore P m m → ⊥)
