use Rattle.std.proofs.Common.{◌≡◌, ◌-◌, length}
use Rattle.flash_plan.specs.Cycles.{next_open, open_from}
use Rattle.flash_plan.proofs.cycle.next_open.Given as goal

abbrev pub invariant-loop-u : goal.invariant-loop-u
invariant-loop-u l = next_open l.units l.n l.marks ≡ open_from l.units l.n l.marks l.u (length l.units - l.u)
