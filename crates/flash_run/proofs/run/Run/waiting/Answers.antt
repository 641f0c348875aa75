use Rattle.flash_plan.specs.Plan.{plan_of}
use Rattle.flash_run.specs.Run.{core_of_run}
use Rattle.flash_run.proofs.Spotted.{waiting_seen}
use Rattle.flash_run.proofs.run.Run.waiting.Goals as goal

pub returns : goal.returns
returns c =
    waiting_seen (plan_of c.args.self.now.plan c.args.unit) ((core_of_run c.args.self.now).slots c.args.unit) c.conversation.result c.waiting_of.result
    c.conversation.ensures c.waiting_of.ensures
