use Rattle.std.proofs.Common.{◌≡◌, ◌<◌, ◌≤◌, drop, length}
use Rattle.flash_base.specs.Lists.{Each}
use Rattle.session_image.specs.Files.{blocks_at}
use Rattle.session_image.specs.Kept.{IsPlaced}
use Rattle.session_image.specs.Pieces.{all_pieces, size_limit, size_of}
use Rattle.session_image.proofs.Joins.{joined}
use Rattle.session_image.proofs.pieces.session_pieces.Given as goal

abbrev pub invariant-loop-at : goal.invariant-loop-at
invariant-loop-at l = record {
  are : all_pieces l.mem l.files l.fill 0 0 (blocks_at l.mem l.blocks) ≡ joined l.pieces (all_pieces l.mem l.files l.fill (length l.pieces) l.size (blocks_at l.mem (drop l.at-index l.blocks)));
  size : l.size ≡ size_of l.pieces;
  limit : l.size ≤ size_limit;
  placed : Each IsPlaced l.pieces;
  some : 0 < l.at-index → 1 ≤ l.size;
  within : Each (λ i. i < length l.mem.blocks) (drop l.at-index l.blocks);
}
