use Rattle.std.proofs.Common.{◌≡◌, drop}
use Rattle.run_report.specs.Recorded.{is_among}
use Rattle.run_report.proofs.recorded.has.Given as goal

abbrev pub invariant-loop-e : goal.invariant-loop-e
invariant-loop-e l = is_among (drop l.e-index l.entries) l.entry ≡ is_among l.entries l.entry
