use Rattle.flash_run.proofs.Taking.{due_is}
use Rattle.flash_run.proofs.run.Run.due_outcome.Goals as goal

pub returns : goal.returns
returns c = due_is c.args.self.now c.args.unit c.ended_or.result c.stop_for.result c.ask.result c.ask.ensures c.stop_for.ensures c.ended_or.ensures
