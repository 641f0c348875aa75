use Rattle.std.proofs.Common.{◌≡◌, true}
use Rattle.std.specs.Prelude.{not}
use Rattle.flash_base.specs.Numbers.{each_below}
use Rattle.barrier_board.specs.Board.{is_free_at}
use Rattle.barrier_board.proofs.board.first_free.Given as goal

abbrev pub invariant-loop-i : goal.invariant-loop-i
invariant-loop-i l = each_below l.i (λ w. not (is_free_at l.posts w)) ≡ true
