use Rattle.flash_run.proofs.Grouping.{group_is_due}
use Rattle.flash_run.proofs.run.Run.is_group_due.Goals as goal

pub returns : goal.returns
returns c = group_is_due c.args.self.now c.is_kept.ensures c.is_due.ensures
