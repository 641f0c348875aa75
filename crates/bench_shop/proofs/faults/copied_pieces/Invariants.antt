use Rattle.std.proofs.Common.{◌≡◌, take}
use Rattle.bench_shop.proofs.faults.copied_pieces.Given as goal

abbrev pub invariant-loop-one : goal.invariant-loop-one
invariant-loop-one l = l.copy ≡ take l.one-index l.garbled
