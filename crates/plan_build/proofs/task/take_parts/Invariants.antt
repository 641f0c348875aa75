use Rattle.std.proofs.Common.{◌≡◌, ◌+◌, ◌≤◌, length}
use Rattle.std.specs.Vec.Iter.{into_iter_items}
use Rattle.plan_build.specs.Loading.{taken}
use Rattle.plan_build.proofs.task.take_parts.Given as goal

abbrev pub invariant-loop-part : goal.invariant-loop-part
invariant-loop-part l = record {
  few : l.number + length (into_iter_items l.rest) ≤ 64;
  taken : taken l.name l.first l.room l.fn.all (into_iter_items l.initial.rest) ≡ taken l.name l.number l.left l.all (into_iter_items l.rest);
}

abbrev pub decreases-loop-part : goal.decreases-loop-part
decreases-loop-part l = length (into_iter_items l.rest)
