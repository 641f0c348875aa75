use Rattle.std.proofs.Common.{◌≡◌, ◌-◌, ◌<◌, ◌≤◌, ℕ, None}
use Rattle.std.specs.FinMap.{get, len}
use Rattle.session_image.specs.Keeping.{left_of, IsReady}
use Rattle.session_image.specs.Pieces.{filled}
use Rattle.session_image.proofs.Joins.{joined}
use Rattle.session_image.proofs.filling.of_pieces.Given as goal

abbrev pub invariant-loop-start : goal.invariant-loop-start
invariant-loop-start l = record {
  ready : IsReady l.pieces;
  within : l.here ≤ l.stop;
  low : (a : ℕ) → a < l.here → get (left_of l.pieces) a ≡ None;
  high : (a : ℕ) → l.stop ≤ a → get (left_of l.pieces) a ≡ None;
  made : filled l.number (get (left_of l.initial.pieces)) l.fill l.fn.range.0 l.fn.range.1 ≡ joined l.out.items (filled l.number (get (left_of l.pieces)) l.fill l.here (l.stop - l.here));
}

abbrev pub decreases-loop-start : goal.decreases-loop-start
decreases-loop-start l = len (left_of l.pieces)
