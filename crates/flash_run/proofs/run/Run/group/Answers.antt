use Rattle.flash_run.proofs.Looping.{group_grown}
use Rattle.flash_run.proofs.run.Run.group.Goals as goal

pub loop-unit-preserved : goal.loop-unit-preserved
loop-unit-preserved c = group_grown c.args.self.now c.loop-unit.unit c.loop-unit.group c.join.new.group c.ask-ask.result c.need-need.result c.in_ok-join.ensures c.loop-unit.invariant c.ask-ask.ensures c.need-need.ensures
