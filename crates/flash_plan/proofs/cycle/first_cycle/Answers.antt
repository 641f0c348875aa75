use Rattle.flash_plan.proofs.Marks.{first_none}
use Rattle.flash_plan.proofs.cycle.first_cycle.Goals as goal

pub returns : goal.returns
returns c = first_none c.args.units.now c.loop-n.n c.loop-n-test.false c.loop-n.invariant
