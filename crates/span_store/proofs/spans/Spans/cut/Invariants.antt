use Rattle.std.proofs.Common.{◌≡◌, ◌+◌, ◌-◌, ◌≤◌}
use Rattle.span_store.specs.ByteMap.{part}
use Rattle.span_store.proofs.spans.Spans.cut.Given as goal

abbrev pub invariant-loop-here : goal.invariant-loop-here
invariant-loop-here l = record {
  from : l.from ≤ l.here;
  within : l.here ≤ l.from + l.size;
  cut : l.cut ≡ part l.self l.from (l.here - l.from);
}

abbrev pub decreases-loop-here : goal.decreases-loop-here
decreases-loop-here l = l.stop - l.here
