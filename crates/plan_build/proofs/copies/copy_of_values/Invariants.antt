use Rattle.std.proofs.Common.{◌≡◌, ◌++◌, drop}
use Rattle.plan_build.proofs.copies.copy_of_values.Given as goal

abbrev pub invariant-loop-value : goal.invariant-loop-value
invariant-loop-value l = l.copy ++ drop l.value-index l.values ≡ l.values
