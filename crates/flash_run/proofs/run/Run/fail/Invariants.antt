use Rattle.std.proofs.Common.{◌-◌, length, drop, take}
use Rattle.flash_run.specs.Group.{failed_as}
use Rattle.flash_run.proofs.Looping.{IsNoting}
use Rattle.flash_run.proofs.run.Run.fail.Given as goal

abbrev pub invariant-loop-i : goal.invariant-loop-i
invariant-loop-i l = IsNoting failed_as l.initial.self l.self l.group (drop l.i (take (length l.group) l.group)) (length l.group - l.i)
