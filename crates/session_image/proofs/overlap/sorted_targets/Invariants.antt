use Rattle.std.proofs.Common.{◌≡◌, ◌++◌, drop}
use Rattle.flash_base.specs.Lists.{Each}
use Rattle.session_image.specs.Kept.{IsPlaced}
use Rattle.session_image.specs.Targets.{ranges_of}
use Rattle.session_image.proofs.overlap.sorted_targets.Given as goal

abbrev pub invariant-loop-piece : goal.invariant-loop-piece
invariant-loop-piece l = record {
  are : l.targets.items ++ ranges_of (drop l.piece-index l.pieces) ≡ ranges_of l.pieces;
  rest : Each IsPlaced (drop l.piece-index l.pieces);
}
