use Rattle.std.proofs.Common.{◌≡◌}
use Rattle.barrier_board.specs.Board.{has_entry as is_found}
use Rattle.flash_bay.specs.Starting.{below}
use Rattle.flash_journal.specs.Kept.{has_entry}
use Rattle.flash_plan.specs.declared.outcome.Entry.{Entry}
use Rattle.flash_bay.proofs.starting.listed.Given as goal

abbrev pub invariant-loop-unit : goal.invariant-loop-unit
invariant-loop-unit l = (x : Entry) → is_found l.all x ≡ below l.unit (has_entry l.journal) x
