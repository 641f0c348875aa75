use Rattle.flash_plan.proofs.Units.{nth_plan-get}
use Rattle.flash_plan.proofs.plan.Plan.unit.Goals as goal

pub returns : goal.returns
returns c = rw (← c.self.view_is) (nth_plan-get c.self.inside.units c.args.n c.at.result.now c.at.ensures)
