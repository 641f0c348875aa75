use Rattle.std.proofs.Common.{◌≡◌, drop}
use Rattle.flash_commands.specs.Outcomes.{is_disk_fault, some_is}
use Rattle.flash_commands.proofs.outcomes.some_disk_fault.Given as goal

abbrev pub invariant-loop-outcome : goal.invariant-loop-outcome
invariant-loop-outcome l = some_is is_disk_fault (drop l.outcome-index l.outcomes) ≡ some_is is_disk_fault l.outcomes
