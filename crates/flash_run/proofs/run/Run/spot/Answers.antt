use Rattle.flash_run.specs.Run.{core_of_run}
use Rattle.flash_run.proofs.Spotted.{spot_seen}
use Rattle.flash_run.proofs.run.Run.spot.Goals as goal

pub returns : goal.returns
returns c =
    spot_seen c.args.plan.now c.args.self.now.plan ((core_of_run c.args.self.now).slots c.args.unit) c.args.unit c.conversation.result c.spot.result
    c.requires.plan c.is_accepted.ensures c.requires.within c.conversation.ensures c.spot.ensures
