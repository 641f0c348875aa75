use Rattle.std.proofs.Common.{◌-◌, drop, take}
use Rattle.flash_run.specs.Group.{recorded_as}
use Rattle.flash_run.proofs.Looping.{IsNoting}
use Rattle.flash_run.proofs.run.Run.record.Given as goal

abbrev pub invariant-loop-i : goal.invariant-loop-i
invariant-loop-i l = IsNoting recorded_as l.initial.self l.self (take l.count l.group) (drop l.i (take l.count l.group)) (l.count - l.i)
