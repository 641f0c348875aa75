use Rattle.std.proofs.Common.{◌≡◌, ◌<◌, drop, length}
use Rattle.flash_base.specs.Lists.{Each}
use Rattle.session_image.specs.Files.{files_of, names_with, blocks_at}
use Rattle.session_image.proofs.files.files_of.Given as goal

abbrev pub invariant-loop-at : goal.invariant-loop-at
invariant-loop-at l = record {
  named : files_of l.mem l.session ≡ names_with l.mem l.names (blocks_at l.mem (drop l.at-index l.blocks));
  within : Each (λ i. i < length l.mem.blocks) (drop l.at-index l.blocks);
}
