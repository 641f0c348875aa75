use Rattle.std.proofs.Common.{◌≡◌, ◌++◌, drop}
use Rattle.run_report.specs.Report.{lines}
use Rattle.run_report.proofs.whole.put_lines.Given as goal

abbrev pub invariant-loop-n : goal.invariant-loop-n
invariant-loop-n l = l.out ++ lines l.plan (drop l.n l.plan) (drop l.n l.outcomes) ≡ l.initial.out ++ lines l.plan l.plan l.outcomes
