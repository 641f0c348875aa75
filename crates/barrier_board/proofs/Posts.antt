-- Posts by the numbers of their units.
use Rattle.std.proofs.Common.{◌≡◌, ◌≢◌, get_or-set_other, get_or-set_same, ℕ, zero, suc, ◌<◌, List, [], ◌∷◌, ◌++◌, length, refl, arith}
use Rattle.std.specs.Prelude.{set}
use Rattle.barrier_board.specs.Board.{post_of, no_post}
use Rattle.barrier_board.specs.declared.post.Post.{Post}

-- one post changed
pub post_set : (posts : List Post) (n k : ℕ) (p : Post) → k ≢ n → post_of (set posts n p) k ≡ post_of posts k
post_set posts n k p ne = get_or-set_other posts n k p no_post ne

pub post_put : (posts : List Post) (n : ℕ) (p : Post) → n < length posts → post_of (set posts n p) n ≡ p
post_put posts n p lt = get_or-set_same posts n p no_post lt

-- one more post at the end
pub post_last : (posts : List Post) (p : Post) → post_of (posts ++ (p ∷ [])) (length posts) ≡ p
post_last [] p = refl
post_last (q ∷ qs) p = post_last qs p

pub post_front : (posts : List Post) (p : Post) (k : ℕ) → k < length posts → post_of (posts ++ (p ∷ [])) k ≡ post_of posts k
post_front [] p k lt = absurd (omega (arith, lt))
post_front (q ∷ qs) p zero lt = refl
post_front (q ∷ qs) p (suc k) lt = post_front qs p k (omega (arith, lt))
