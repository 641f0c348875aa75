use Rattle.flash_run.proofs.Dues.{dues}
use Rattle.flash_run.proofs.run.Run.is_due.Goals as goal

pub returns : goal.returns
returns c = dues c.args.self.now c.is_kept.ensures
