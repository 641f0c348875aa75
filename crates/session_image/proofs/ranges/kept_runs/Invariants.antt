use Rattle.std.proofs.Common.{◌≡◌, ◌-◌, ◌<◌, ◌≤◌, ◌++◌, ℕ, None}
use Rattle.std.specs.FinMap.{get, len, retain_keys}
use Rattle.flash_base.specs.Lists.{Each}
use Rattle.ecu_mem.specs.Bounds.{IsRange}
use Rattle.span_store.specs.ByteMap.{top}
use Rattle.span_store.specs.Runs.{before_runs, runs}
use Rattle.session_image.specs.Content.{is_kept}
use Rattle.session_image.specs.Keeping.{left_of, IsReady}
use Rattle.session_image.proofs.ranges.kept_runs.Given as goal

abbrev pub invariant-loop-start : goal.invariant-loop-start
invariant-loop-start l = record {
  ready : IsReady l.kept;
  order : l.from < l.end;
  within : l.end ≤ top;
  low : (a : ℕ) → a < l.end → get (left_of l.kept) a ≡ None;
  each : Each IsRange l.runs.items;
  runs : runs (retain_keys l.spans (is_kept l.fn.filters)) ≡ l.runs.items ++ before_runs (l.from, l.end - l.from) (runs (left_of l.kept));
}

abbrev pub decreases-loop-start : goal.decreases-loop-start
decreases-loop-start l = len (left_of l.kept)
