use Rattle.std.proofs.Common.{◌≡◌, drop}
use Rattle.barrier_board.specs.Board.{has_entry}
use Rattle.bay_replay.proofs.units.has.Given as goal

abbrev pub invariant-loop-e : goal.invariant-loop-e
invariant-loop-e l = has_entry (drop l.e-index l.entries) l.entry ≡ has_entry l.entries l.entry
