use Rattle.std.proofs.Common.{◌≡◌}
use Rattle.flash_run.specs.Group.{group_below}
use Rattle.flash_run.proofs.run.Run.group.Given as goal

abbrev pub invariant-loop-unit : goal.invariant-loop-unit
invariant-loop-unit l = l.group ≡ group_below l.self l.unit
