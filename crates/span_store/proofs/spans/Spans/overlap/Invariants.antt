use Rattle.std.proofs.Common.{◌-◌, ℕ, ◌<◌, ◌≤◌}
use Rattle.span_store.specs.ByteMap.{top}
use Rattle.span_store.specs.Lowest.{IsShared}
use Rattle.span_store.proofs.spans.Spans.overlap.Given as goal

abbrev pub invariant-loop-start : goal.invariant-loop-start
invariant-loop-start l = (l.here ≤ top) × ((a : ℕ) → a < l.here → IsShared l.self l.other a → ⊥)

abbrev pub decreases-loop-start : goal.decreases-loop-start
decreases-loop-start l = top - l.here
