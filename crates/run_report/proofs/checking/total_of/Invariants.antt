use Rattle.std.proofs.Common.{◌≡◌, ◌+◌, drop}
use Rattle.flash_plan.specs.Plan.{total_of}
use Rattle.run_report.proofs.checking.total_of.Given as goal

abbrev pub invariant-loop-n : goal.invariant-loop-n
invariant-loop-n l = l.sum + total_of (drop l.n l.plan) ≡ total_of l.plan
