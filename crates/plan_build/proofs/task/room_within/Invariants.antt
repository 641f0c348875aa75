use Rattle.std.proofs.Common.{◌≡◌, ◌+◌, ◌≤◌, drop}
use Rattle.flash_plan.specs.Plan.{size_of}
use Rattle.plan_build.proofs.task.room_within.Given as goal

abbrev pub invariant-loop-i : goal.invariant-loop-i
invariant-loop-i l = record {
  is : size_of l.segments + l.left ≡ l.room + size_of (drop l.i l.segments);
  few : l.left ≤ l.room;
}
