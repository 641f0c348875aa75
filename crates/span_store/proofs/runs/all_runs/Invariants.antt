use Rattle.std.proofs.Common.{◌≡◌, ◌-◌, ◌≤◌, ◌++◌}
use Rattle.span_store.specs.ByteMap.{top}
use Rattle.span_store.proofs.Merged.{merged, runs_from}
use Rattle.span_store.proofs.runs.all_runs.Given as goal

abbrev pub invariant-loop-start : goal.invariant-loop-start
invariant-loop-start l = record {
  within : l.end ≤ top;
  order : l.from ≤ l.end;
  known : merged l.store.entries ≡ l.runs.items ++ runs_from l.from l.end l.store.entries;
}

abbrev pub decreases-loop-start : goal.decreases-loop-start
decreases-loop-start l = top - l.end
