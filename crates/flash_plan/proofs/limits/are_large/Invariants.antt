use Rattle.std.proofs.Common.{◌≡◌, ◌+◌, ◌≤◌, drop}
use Rattle.flash_plan.specs.Accepting.{total_of_drafts}
use Rattle.flash_plan.proofs.limits.are_large.Given as goal

abbrev pub invariant-loop-i : goal.invariant-loop-i
invariant-loop-i l = record {
  is : total_of_drafts l.drafts + l.room ≡ 67108864 + total_of_drafts (drop l.i l.drafts);
  few : l.room ≤ 67108864;
}
