use Rattle.std.proofs.Common.{◌≡◌, ◌++◌, length}
use Rattle.std.specs.Vec.Iter.{into_iter_items}
use Rattle.session_image.specs.Pieces.{segments_of}
use Rattle.session_image.proofs.pieces.segments_of.Given as goal

abbrev pub invariant-loop-piece : goal.invariant-loop-piece
invariant-loop-piece l = l.segments ++ segments_of (into_iter_items l.rest) ≡ segments_of (into_iter_items l.initial.rest)

abbrev pub decreases-loop-piece : goal.decreases-loop-piece
decreases-loop-piece l = length (into_iter_items l.rest)
