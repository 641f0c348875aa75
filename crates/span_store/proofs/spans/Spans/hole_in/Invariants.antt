use Rattle.std.proofs.Common.{◌-◌, ℕ, ◌<◌, ◌≤◌}
use Rattle.std.specs.Prelude.{IsSome}
use Rattle.std.specs.FinMap.{get}
use Rattle.span_store.specs.ByteMap.{top}
use Rattle.span_store.proofs.spans.Spans.hole_in.Given as goal

abbrev pub invariant-loop-here : goal.invariant-loop-here
invariant-loop-here l = record {
  from : l.from ≤ l.here;
  within : l.here ≤ top;
  there : (a : ℕ) → l.from ≤ a → a < l.here → IsSome (get l.self a);
}

abbrev pub decreases-loop-here : goal.decreases-loop-here
decreases-loop-here l = l.stop - l.here
