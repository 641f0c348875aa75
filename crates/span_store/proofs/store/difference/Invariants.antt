use Rattle.std.proofs.Common.{length, ◌-◌, ◌≡◌, ℕ, ◌<◌, slice_get}
use Rattle.span_store.proofs.store.difference.Given as goal

abbrev pub invariant-loop-k : goal.invariant-loop-k
invariant-loop-k l = (j : ℕ) → j < l.k → slice_get l.old j ≡ slice_get l.new j

abbrev pub decreases-loop-k : goal.decreases-loop-k
decreases-loop-k l = length l.old - l.k
