use Rattle.std.proofs.Common.{ℕ, ◌<◌}
use Rattle.flash_plan.specs.Plan.{StandsBefore}
use Rattle.flash_plan.proofs.cycle.first_cycle.Given as goal

abbrev pub invariant-loop-n : goal.invariant-loop-n
invariant-loop-n l = (m : ℕ) → m < l.n → StandsBefore l.units m m → ⊥
