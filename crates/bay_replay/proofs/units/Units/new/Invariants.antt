use Rattle.std.proofs.Common.{◌≡◌, ◌<◌, ℕ, length}
use Rattle.flash_plan.specs.Plan.{plan_of}
use Rattle.bay_replay.specs.Units.{unit_of, IsFresh}
use Rattle.bay_replay.proofs.units.Units.new.Given as goal

abbrev pub invariant-loop-n : goal.invariant-loop-n
invariant-loop-n l = record {
  size : length l.items.items ≡ l.n;
  each : (k : ℕ) → k < l.n → IsFresh (plan_of l.plan k) l.found k (unit_of l.items.items k);
}
