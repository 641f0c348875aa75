use Rattle.std.proofs.Common.{subst}
use Rattle.bay_replay.specs.Held.{IsBoardOf}
use Rattle.flash_run.specs.Run.{RunState, core_of_run, seen_core, told_seen}
use Rattle.flash_run.proofs.Taking.{board_of}
use Rattle.flash_run.proofs.run.Run.into_log.Goals as goal

pub returns-clause-board : goal.returns-clause-board
returns-clause-board c =
    board_of c.args.self c.into_board.result
    (subst (λ (r : RunState). IsBoardOf r.plan (seen_core r.plan r.starved (core_of_run r)) c.into_board.result) c.self.view_is
    (c.into_board.ensures c.self.inside.plan.value (told_seen c.self.inside.plan.value c.self.inside.rules c.self.inside.found c.self.inside.notes.events c.self.inside.starved) c.self.invariant.holds))
