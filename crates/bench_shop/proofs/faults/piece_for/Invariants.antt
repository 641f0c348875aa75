use Rattle.std.proofs.Common.{◌≡◌, true, drop}
use Rattle.flash_base.specs.Lists.{all_of}
use Rattle.bench_shop.specs.Faults.{is_piece, piece_for}
use Rattle.bench_shop.proofs.faults.piece_for.Given as goal

abbrev pub invariant-loop-one : goal.invariant-loop-one
invariant-loop-one l =
    (piece_for l.garbled l.number ≡ piece_for (drop l.one-index l.garbled) l.number)
    × (all_of l.garbled is_piece ≡ true → all_of (drop l.one-index l.garbled) is_piece ≡ true)
