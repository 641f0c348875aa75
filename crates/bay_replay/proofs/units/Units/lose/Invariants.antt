use Rattle.std.proofs.Common.{◌≡◌, ◌<◌, ◌≤◌, ℕ, length}
use Rattle.flash_plan.specs.Plan.{plan_of, count_of}
use Rattle.bay_replay.specs.Units.{unit_of, IsLostUnit}
use Rattle.bay_replay.proofs.units.Units.lose.Given as goal

abbrev pub invariant-loop-n : goal.invariant-loop-n
invariant-loop-n l = record {
  size : length l.self ≡ count_of l.plan;
  below : (k : ℕ) → k < l.n → IsLostUnit (plan_of l.plan k) (unit_of l.initial.self k) (unit_of l.self k);
  above : (k : ℕ) → l.n ≤ k → unit_of l.self k ≡ unit_of l.initial.self k;
}
