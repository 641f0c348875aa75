use Rattle.std.proofs.Common.{◌≡◌, drop}
use Rattle.flash_base.specs.Lists.{all_of}
use Rattle.barrier_board.specs.Board.{is_complete}
use Rattle.barrier_board.proofs.post.all_complete.Given as goal

abbrev pub invariant-loop-unit : goal.invariant-loop-unit
invariant-loop-unit l = all_of (drop l.unit-index l.units) (is_complete l.posts) ≡ all_of l.units (is_complete l.posts)
