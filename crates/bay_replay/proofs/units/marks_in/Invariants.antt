use Rattle.std.proofs.Common.{◌≡◌, ℕ, drop}
use Rattle.std.specs.Prelude.{◌||◌}
use Rattle.barrier_board.specs.Board.{has_entry}
use Rattle.run_model.specs.Entries.{marks_of}
use Rattle.unit_session.specs.Session.{has_mark}
use Rattle.bay_replay.specs.Units.{low_marks}
use Rattle.bay_replay.proofs.units.marks_in.Given as goal

abbrev pub invariant-loop-e : goal.invariant-loop-e
invariant-loop-e l = (k : ℕ) → (has_mark l.marks k || low_marks (marks_of (has_entry (drop l.e-index l.entries)) l.unit) k) ≡ low_marks (marks_of (has_entry l.entries) l.unit) k
