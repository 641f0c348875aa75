use Rattle.std.proofs.Common.{◌≡◌, ◌++◌}
use Rattle.run_report.specs.Checking.{planned_parts}
use Rattle.run_report.proofs.checking.put_parts.Given as goal

abbrev pub invariant-loop-n : goal.invariant-loop-n
invariant-loop-n l = l.out ≡ l.initial.out ++ planned_parts l.plan l.tasks l.n
