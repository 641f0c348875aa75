use Rattle.std.proofs.Common.{◌≡◌, ◌+◌, ◌++◌, length}
use Rattle.std.specs.Vec.Iter.{into_iter_items}
use Rattle.session_image.specs.Pieces.{size_of}
use Rattle.session_image.proofs.pieces.append.Given as goal

abbrev pub invariant-loop-piece : goal.invariant-loop-piece
invariant-loop-piece l = record {
  pieces : l.pieces ++ into_iter_items l.rest ≡ l.fn.pieces ++ into_iter_items l.initial.rest;
  size : l.size + size_of (into_iter_items l.rest) ≡ size_of (into_iter_items l.initial.rest);
}

abbrev pub decreases-loop-piece : goal.decreases-loop-piece
decreases-loop-piece l = length (into_iter_items l.rest)
