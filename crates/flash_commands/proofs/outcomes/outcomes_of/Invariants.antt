use Rattle.std.proofs.Common.{◌≡◌, ◌++◌, drop}
use Rattle.flash_commands.specs.Outcomes.{on_board}
use Rattle.flash_commands.proofs.outcomes.outcomes_of.Given as goal

abbrev pub invariant-loop-unit : goal.invariant-loop-unit
invariant-loop-unit l = l.outcomes ++ on_board (drop l.unit l.board) ≡ on_board l.board
