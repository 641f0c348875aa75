use Rattle.std.proofs.Common.{◌≡◌, drop}
use Rattle.flash_commands.specs.Outcomes.{lacks_memory, some_is}
use Rattle.flash_commands.proofs.outcomes.some_lacks_memory.Given as goal

abbrev pub invariant-loop-outcome : goal.invariant-loop-outcome
invariant-loop-outcome l = some_is lacks_memory (drop l.outcome-index l.outcomes) ≡ some_is lacks_memory l.outcomes
