use Rattle.std.proofs.Common.{◌≡◌, drop}
use Rattle.flash_plan.specs.Cycles.{first_open}
use Rattle.flash_plan.proofs.cycle.first_open.Given as goal

abbrev pub invariant-loop-i : goal.invariant-loop-i
invariant-loop-i l = first_open l.marks l.units ≡ first_open l.marks (drop l.i l.units)
