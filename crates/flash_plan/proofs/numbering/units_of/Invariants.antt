use Rattle.std.proofs.Common.{length}
use Rattle.flash_plan.proofs.Numbers.{IsTaken}
use Rattle.flash_plan.proofs.numbering.units_of.Given as goal

abbrev pub invariant-loop-unit : goal.invariant-loop-unit
invariant-loop-unit l = IsTaken l.fn.drafts l.left.items l.numbers.items l.units

abbrev pub decreases-loop-unit : goal.decreases-loop-unit
decreases-loop-unit l = length l.left.items
