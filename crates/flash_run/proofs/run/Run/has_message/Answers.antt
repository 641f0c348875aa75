use Rattle.std.proofs.Common.{ap}
use Rattle.flash_run.specs.Run.{RunState}
use Rattle.flash_run.proofs.Taking.{message_is}
use Rattle.flash_run.proofs.run.Run.has_message.Goals as goal

pub returns : goal.returns
returns c =
    message_is c.args.self.now c.args.plan.now c.self.inside.rules c.self.inside.found c.self.inside.notes.events c.self.inside.starved c.args.unit c.has_message_in.result c.requires.plan (ap (λ (r : RunState). r.rules) c.self.view_is)
    (ap (λ (r : RunState). r.found) c.self.view_is) (ap (λ (r : RunState). r.events) c.self.view_is) (ap (λ (r : RunState). r.starved) c.self.view_is) c.requires.fed c.has_message_in.ensures
