use Rattle.std.proofs.Common.{◌-◌, ◌^◌, length}
use Rattle.flash_bay.specs.Calls.{Grows}
use Rattle.flash_workers.proofs.alone.finish.Given as goal

abbrev pub invariant-loop-unit : goal.invariant-loop-unit
invariant-loop-unit g l = Grows l.initial.bay l.bay

abbrev pub decreases-loop-unit : goal.decreases-loop-unit
decreases-loop-unit g l = 2 ^ 63 - length l.bay.run.events
