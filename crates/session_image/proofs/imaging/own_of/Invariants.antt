use Rattle.std.proofs.Common.{◌≡◌, ◌<◌, ◌++◌, drop, length}
use Rattle.flash_base.specs.Lists.{Each}
use Rattle.session_image.specs.Files.{blocks_at}
use Rattle.session_image.specs.Images.{own_of}
use Rattle.session_image.proofs.imaging.own_of.Given as goal

abbrev pub invariant-loop-at : goal.invariant-loop-at
invariant-loop-at l = record {
  own : l.own ++ own_of (blocks_at l.mem (drop l.at-index l.blocks)) ≡ own_of (blocks_at l.mem l.blocks);
  within : Each (λ i. i < length l.mem.blocks) (drop l.at-index l.blocks);
}
