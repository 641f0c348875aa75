use Rattle.std.proofs.Common.{◌≡◌}
use Rattle.std.specs.Prelude.{◌&&◌}
use Rattle.barrier_board.specs.Board.{has_entry as is_found}
use Rattle.flash_bay.specs.Starting.{is_listed}
use Rattle.flash_journal.specs.Kept.{has_entry}
use Rattle.flash_plan.specs.declared.outcome.Entry.{Entry}
use Rattle.flash_bay.proofs.starting.list_unit.Given as goal

abbrev pub invariant-loop-segment : goal.invariant-loop-segment
invariant-loop-segment l = (x : Entry) → is_found l.all x ≡ (is_listed l.unit l.segment x && has_entry l.journal x)
