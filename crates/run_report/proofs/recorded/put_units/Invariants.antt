use Rattle.std.proofs.Common.{◌≡◌, ◌++◌, drop}
use Rattle.run_report.specs.Recorded.{is_among, recorded_lines}
use Rattle.run_report.proofs.recorded.put_units.Given as goal

abbrev pub invariant-loop-n : goal.invariant-loop-n
invariant-loop-n l = l.out ++ recorded_lines (is_among l.entries) l.n (drop l.n l.plan) ≡ l.initial.out ++ recorded_lines (is_among l.entries) 0 l.plan
