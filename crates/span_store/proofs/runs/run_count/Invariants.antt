use Rattle.std.proofs.Common.{◌≡◌, ◌+◌, ◌-◌, ◌≤◌, length}
use Rattle.span_store.specs.ByteMap.{top}
use Rattle.span_store.specs.Extents.{high}
use Rattle.span_store.proofs.Merged.{merged, tally}
use Rattle.span_store.proofs.runs.run_count.Given as goal

abbrev pub invariant-loop-start : goal.invariant-loop-start
invariant-loop-start l = record {
  within : l.end ≤ top;
  small : l.count ≤ l.end;
  counted : length (merged l.store.entries) ≡ l.count + tally l.end (high l.end l.store.entries);
}

abbrev pub decreases-loop-start : goal.decreases-loop-start
decreases-loop-start l = top - l.end
