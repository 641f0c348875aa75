use Rattle.std.proofs.Common.{◌≡◌, ◌-◌, ◌≤◌, drop}
use Rattle.span_store.specs.ByteMap.{clash, top}
use Rattle.span_store.specs.Extents.{map_of}
use Rattle.span_store.proofs.store.first_clash.Given as goal

abbrev pub invariant-loop-here : goal.invariant-loop-here
invariant-loop-here l = record {
  from : l.at ≤ l.here;
  within : l.here ≤ top;
  known : clash (map_of l.store.entries) l.at l.bytes ≡ clash (map_of l.store.entries) l.here (drop (l.here - l.at) l.bytes);
}

abbrev pub decreases-loop-here : goal.decreases-loop-here
decreases-loop-here l = l.stop - l.here
