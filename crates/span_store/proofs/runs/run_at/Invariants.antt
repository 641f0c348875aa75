use Rattle.std.proofs.Common.{◌≡◌, ◌-◌, ◌≤◌}
use Rattle.std.specs.List.{slice_get}
use Rattle.span_store.specs.ByteMap.{top}
use Rattle.span_store.proofs.Merged.{merged, runs_from}
use Rattle.span_store.proofs.runs.run_at.Given as goal

abbrev pub invariant-loop-start : goal.invariant-loop-start
invariant-loop-start l = record {
  within : l.end ≤ top;
  order : l.at ≤ l.end;
  seen : l.seen ≤ l.i;
  known : slice_get (merged l.store.entries) l.i ≡ slice_get (runs_from l.at l.end l.store.entries) (l.i - l.seen);
}

abbrev pub decreases-loop-start : goal.decreases-loop-start
decreases-loop-start l = top - l.end
