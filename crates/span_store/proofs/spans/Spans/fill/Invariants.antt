use Rattle.std.proofs.Common.{◌-◌, ◌≤◌, length, take}
use Rattle.span_store.specs.ByteMap.{Holds}
use Rattle.span_store.proofs.spans.Spans.fill.Given as goal

abbrev pub invariant-loop-done : goal.invariant-loop-done
invariant-loop-done l = record {
  within : l.done ≤ length l.out;
  filled : Holds l.self l.from (take l.done l.out);
}

abbrev pub decreases-loop-done : goal.decreases-loop-done
decreases-loop-done l = length l.out - l.done
