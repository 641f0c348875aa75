use Rattle.flash_run.proofs.Taking.{kept_of}
use Rattle.flash_run.proofs.run.Run.is_kept.Goals as goal

pub returns : goal.returns
returns c = kept_of c.args.self.now c.self.inside.plan.value c.self.inside.rules c.self.inside.found c.self.inside.notes c.self.inside.starved c.self.inside.core c.self.view_is c.self.invariant
