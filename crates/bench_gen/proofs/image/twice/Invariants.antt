use Rattle.std.proofs.Common.{◌≡◌, ℕ, ◌<◌, ◌%◌, length, get_or}
use Rattle.bench_gen.proofs.image.twice.Given as goal

abbrev pub invariant-loop-i : goal.invariant-loop-i
invariant-loop-i l = (length l.table ≡ 512) × ((i : ℕ) → i < l.i → get_or l.table i 0 ≡ i % 256)
