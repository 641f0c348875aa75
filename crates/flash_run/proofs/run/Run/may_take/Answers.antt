use Rattle.std.proofs.Common.{◌≡◌, sym, ap, ◌∙◌}
use Rattle.flash_run.specs.Run.{RunState}
use Rattle.flash_run.proofs.Taking.{may_seen}
use Rattle.flash_run.proofs.run.Run.may_take.Goals as goal

pub returns : goal.returns
returns c =
    let same : c.args.plan.now ≡ c.self.inside.plan.value = c.requires ∙ sym (ap (λ (r : RunState). r.plan) c.self.view_is) in
    may_seen c.args.self.now c.args.plan.now c.self.inside.plan.value c.self.inside.rules c.self.inside.found c.self.inside.notes c.self.inside.starved same c.self.view_is c.args.event.now c.may_take_in.result c.may_still.result c.may_still.ensures c.if-not-may_still.false c.may_take_in.ensures
