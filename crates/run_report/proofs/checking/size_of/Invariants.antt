use Rattle.std.proofs.Common.{◌≡◌, ◌+◌, drop}
use Rattle.flash_plan.specs.Plan.{size_of}
use Rattle.run_report.proofs.checking.size_of.Given as goal

abbrev pub invariant-loop-i : goal.invariant-loop-i
invariant-loop-i l = l.sum + size_of (drop l.i l.segments) ≡ size_of l.segments
