use Rattle.std.proofs.Common.{◌≡◌, length}
use Rattle.flash_plan.specs.Cycles.{unmarked}
use Rattle.flash_plan.proofs.Marks.{AreBefore}
use Rattle.flash_plan.proofs.cycle.is_before_itself.Given as goal

abbrev pub invariant-loop-w : goal.invariant-loop-w
invariant-loop-w l = record {
  size : length l.marks ≡ 64;
  before : AreBefore l.units l.n l.marks;
}

abbrev pub decreases-loop-w : goal.decreases-loop-w
decreases-loop-w l = unmarked l.marks
