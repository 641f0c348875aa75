use Rattle.std.proofs.Common.{◌≡◌, ◌+◌, ◌-◌, ◌≤◌, length, drop}
use Rattle.journal_steps.specs.Tables.{closed_run}
use Rattle.flash_journal.proofs.slots.closed_run.Given as goal

abbrev pub invariant-loop-slot : goal.invariant-loop-slot
invariant-loop-slot l = record { within : l.slot ≤ length l.gates; run : closed_run l.gates ≡ l.slot + closed_run (drop l.slot l.gates) }

abbrev pub decreases-loop-slot : goal.decreases-loop-slot
decreases-loop-slot l = length l.gates - l.slot
