use Rattle.std.proofs.Common.{◌≡◌, ◌<◌, ℕ, length}
use Rattle.barrier_board.specs.Board.{post_of, post_start}
use Rattle.barrier_board.proofs.board.Board.new.Given as goal

abbrev pub invariant-loop-n : goal.invariant-loop-n
invariant-loop-n l = record {
  size : length l.posts.items ≡ l.n;
  each : (k : ℕ) → k < l.n → post_of l.posts.items k ≡ post_start l.plan l.entries k;
}
