use Rattle.std.proofs.Common.{◌≡◌, ◌*◌, map}
use Rattle.std.specs.List.{range_with_len}
use Rattle.bench_gen.specs.Sizes.{image_byte}
use Rattle.bench_gen.proofs.image.put_rows.Given as goal

abbrev pub invariant-loop-row : goal.invariant-loop-row
invariant-loop-row l = l.out ≡ map (image_byte l.n l.k) (range_with_len 0 (l.row * 256))
