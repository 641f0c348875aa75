use Rattle.std.proofs.Common.{◌≡◌, true, take}
use Rattle.barrier_board.specs.Board.{has_entry}
use Rattle.bay_core.specs.Core.{core_start}
use Rattle.bay_core.specs.Legal.{is_legal}
use Rattle.bay_replay.specs.Held.{Holds}
use Rattle.bay_replay.specs.Replays.{told_by}
use Rattle.bay_replay.proofs.replaying.replay.Given as goal

abbrev pub ghost-step_at : goal.ghost-step_at
ghost-step_at a = told_by a.rules.now a.plan.now a.found.now (take a.i a.events.now)

abbrev pub invariant-loop-i : goal.invariant-loop-i
invariant-loop-i l = record {
  holds : Holds l.plan l.core (told_by l.rules l.plan l.found (take l.i l.events));
  legal : is_legal l.rules l.plan (core_start l.plan (has_entry l.found)) (take l.i l.events) ≡ true;
}
