use Rattle.flash_plan.specs.Plan.{plan_of}
use Rattle.flash_run.specs.Run.{core_of_run}
use Rattle.flash_run.proofs.Spotted.{number_seen}
use Rattle.flash_run.proofs.run.Run.number.Goals as goal

pub returns : goal.returns
returns c =
    number_seen (plan_of c.args.self.now.plan c.args.unit) ((core_of_run c.args.self.now).slots c.args.unit) c.conversation.result c.number.result
    c.conversation.ensures c.number.ensures
