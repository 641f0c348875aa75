use Rattle.std.proofs.Common.{refl}
use Rattle.flash_run.specs.Run.{told_seen}
use Rattle.flash_run.proofs.Taking.{stopped_seen}
use Rattle.flash_run.proofs.run.Run.is_stopped.Goals as goal

pub returns : goal.returns
returns c = stopped_seen c.args.self.now c.self.inside.plan.value c.self.inside.plan.value c.self.inside.rules c.self.inside.found c.self.inside.notes c.self.inside.starved refl c.self.view_is c.is_some.result c.stop.result c.if-self.false (c.stop.ensures c.self.inside.plan.value (told_seen c.self.inside.plan.value c.self.inside.rules c.self.inside.found c.self.inside.notes.events c.self.inside.starved) c.self.invariant.holds) c.is_some.ensures
