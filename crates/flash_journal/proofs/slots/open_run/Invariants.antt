use Rattle.std.proofs.Common.{◌≡◌, ◌+◌, ◌-◌, ◌≤◌, length, drop}
use Rattle.journal_steps.specs.Tables.{open_run}
use Rattle.flash_journal.proofs.slots.open_run.Given as goal

abbrev pub invariant-loop-slot : goal.invariant-loop-slot
invariant-loop-slot l = record { within : l.slot ≤ length l.gates; run : open_run l.gates ≡ l.slot + open_run (drop l.slot l.gates) }

abbrev pub decreases-loop-slot : goal.decreases-loop-slot
decreases-loop-slot l = length l.gates - l.slot
