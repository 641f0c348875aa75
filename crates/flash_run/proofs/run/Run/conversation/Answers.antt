use Rattle.std.proofs.Common.{ap}
use Rattle.flash_run.specs.Run.{RunState}
use Rattle.flash_run.proofs.Spotted.{conversation_seen}
use Rattle.flash_run.proofs.run.Run.conversation.Goals as goal

pub returns : goal.returns
returns c =
    conversation_seen c.args.self.now c.args.plan.now c.self.inside.rules c.self.inside.found c.self.inside.notes.events c.self.inside.starved c.args.unit c.conversation_in.result c.requires.plan (ap (λ (r : RunState). r.rules) c.self.view_is)
    (ap (λ (r : RunState). r.found) c.self.view_is) (ap (λ (r : RunState). r.events) c.self.view_is) (ap (λ (r : RunState). r.starved) c.self.view_is) c.requires.fed c.conversation_in.ensures
