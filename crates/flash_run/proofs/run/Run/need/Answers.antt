use Rattle.std.proofs.Common.{refl, sym, ◌∙◌}
use Rattle.flash_run.specs.Run.{told_seen}
use Rattle.flash_run.proofs.Taking.{need_is}
use Rattle.flash_run.proofs.run.Run.need.Goals as goal

pub returns : goal.returns
returns c =
    need_is c.args.self.now c.self.inside.plan.value c.self.inside.plan.value c.self.inside.rules c.self.inside.found c.self.inside.notes c.self.inside.starved refl c.self.view_is c.args.unit c.need_by.result c.has_failed.result c.is_stopped.result c.is_linked.result c.ask.result (sym c.is_open.ensures ∙ c.if-not-is_open.false)
    (c.has_failed.ensures c.self.inside.plan.value (told_seen c.self.inside.plan.value c.self.inside.rules c.self.inside.found c.self.inside.notes.events c.self.inside.starved) c.self.invariant.holds) c.is_stopped.ensures (c.is_linked.ensures c.self.inside.plan.value (told_seen c.self.inside.plan.value c.self.inside.rules c.self.inside.found c.self.inside.notes.events c.self.inside.starved) c.self.invariant.holds) c.ask.ensures c.need_by.ensures
