use Rattle.std.proofs.Common.{◌≡◌, ◌+◌, ◌≤◌, length}
use Rattle.std.specs.Vec.Iter.{into_iter_items}
use Rattle.flash_base.specs.Lists.{Each}
use Rattle.session_image.specs.Kept.{IsPlaced, IsWithin, sizes}
use Rattle.session_image.specs.Pieces.{moved, size_of, size_limit}
use Rattle.session_image.proofs.Joins.{joined}
use Rattle.session_image.proofs.pieces.moved.Given as goal

abbrev pub invariant-loop-piece : goal.invariant-loop-piece
invariant-loop-piece l = record {
  are : moved l.block l.first (into_iter_items l.initial.rest) ≡ joined l.pieces (moved l.block l.number (into_iter_items l.rest));
  within : Each IsWithin (into_iter_items l.rest);
  limit : l.number + sizes (into_iter_items l.rest) ≤ size_limit;
  placed : Each IsPlaced l.pieces;
  size : size_of l.pieces + sizes (into_iter_items l.rest) ≡ sizes (into_iter_items l.initial.rest);
}

abbrev pub decreases-loop-piece : goal.decreases-loop-piece
decreases-loop-piece l = length (into_iter_items l.rest)
