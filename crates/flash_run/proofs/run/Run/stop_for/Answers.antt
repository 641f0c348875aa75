use Rattle.std.proofs.Common.{◌≡◌, sym, ap, ◌∙◌}
use Rattle.flash_run.specs.Run.{RunState, told_seen}
use Rattle.flash_run.proofs.Taking.{stop_seen}
use Rattle.flash_run.proofs.run.Run.stop_for.Goals as goal

pub returns : goal.returns
returns c =
    let same : c.args.plan.now ≡ c.self.inside.plan.value = c.requires.plan ∙ sym (ap (λ (r : RunState). r.plan) c.self.view_is) in
    stop_seen c.args.self.now c.args.plan.now c.self.inside.plan.value c.self.inside.rules c.self.inside.found c.self.inside.notes c.self.inside.starved same c.self.view_is c.args.unit c.has_faulted_in.result c.stop.result c.stop_or.result c.has_faulted_in.ensures c.if-has_faulted_in.false c.if-self.false (c.stop.ensures c.self.inside.plan.value (told_seen c.self.inside.plan.value c.self.inside.rules c.self.inside.found c.self.inside.notes.events c.self.inside.starved) c.self.invariant.holds) c.stop_or.ensures
