use Rattle.std.proofs.Common.{◌≡◌, ◌≤◌, ℕ, List, drop, length}
use Rattle.indexmap.specs.IndexMap.{get_by_text}
use Rattle.plan_build.specs.Tasks.{did_of}
use Rattle.plan_build.proofs.idents.table_of.Given as goal

abbrev pub invariant-loop-left : goal.invariant-loop-left
invariant-loop-left l = record {
  table : (name : List ℕ) → get_by_text l.table name ≡ did_of (drop l.left l.dids) name;
  within : l.left ≤ length l.dids;
}

abbrev pub decreases-loop-left : goal.decreases-loop-left
decreases-loop-left l = l.left
