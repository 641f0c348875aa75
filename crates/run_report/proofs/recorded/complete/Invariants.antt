use Rattle.std.proofs.Common.{◌≡◌, ◌+◌, ◌≤◌, drop}
use Rattle.run_report.specs.Recorded.{is_among, complete_from}
use Rattle.run_report.proofs.recorded.complete.Given as goal

abbrev pub invariant-loop-n : goal.invariant-loop-n
invariant-loop-n l = record {
  some : l.count ≤ l.n;
  rest : l.count + complete_from (is_among l.entries) l.n (drop l.n l.plan) ≡ complete_from (is_among l.entries) 0 l.plan;
}
