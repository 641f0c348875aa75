use Rattle.std.proofs.Common.{length, ◌≡◌}
use Rattle.span_store.specs.Extents.{low, high}
use Rattle.span_store.proofs.store.clear.Given as goal

abbrev pub invariant-loop-start : goal.invariant-loop-start
invariant-loop-start l = record {
  below : low l.from l.store.entries ≡ low l.from l.initial.store.entries;
  above : high l.to l.store.entries ≡ high l.to l.initial.store.entries;
}

abbrev pub decreases-loop-start : goal.decreases-loop-start
decreases-loop-start l = length l.store.entries
