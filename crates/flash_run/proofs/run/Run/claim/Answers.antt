use Rattle.std.proofs.Common.{◌≡◌, false, sym, ap, ◌∙◌}
use Rattle.flash_run.specs.Run.{RunState}
use Rattle.bay_core.specs.declared.event.Event.TheVariants.{Claimed}
use Rattle.flash_run.proofs.Taking.{taken_logged, claim_room, some_room, may_fed, claim_holds}
use Rattle.flash_run.proofs.run.Run.claim.Goals as goal

pub note-requires : goal.note-requires
note-requires c =
    let same : c.args.plan.now ≡ c.self.inside.plan.value = c.requires ∙ sym (ap (λ (r : RunState). r.plan) c.self.view_is) in
    some_room _ _ (claim_room c.args.plan.now c.self.inside.plan.value c.self.inside.rules c.self.inside.found c.self.inside.notes c.self.inside.starved c.self.inside.core c.in-Unit.unit same c.self.invariant c.in-Unit.ensures.0)

pub invariant_of-self : goal.invariant_of-self
invariant_of-self c =
    let same : c.args.plan.now ≡ c.self.inside.plan.value = c.requires ∙ sym (ap (λ (r : RunState). r.plan) c.self.view_is) in
    taken_logged c.args.plan.now c.self.inside.plan.value c.self.inside.rules c.self.inside.found c.self.inside.notes c.note.new.self c.self.inside.starved c.self.inside.core c.claim_in-claimed.new.core (Claimed c.in-Unit.unit) same c.note.ensures c.self.invariant
    (may_fed c.self.inside.starved false c.if-self.false) c.in-Unit.ensures.0
    (claim_holds c.args.plan.now c.self.inside.rules c.self.inside.found c.self.inside.notes.events c.self.inside.starved c.claim_in-claimed.new.core (Claimed c.in-Unit.unit) c.if-self.false c.in-Unit.ensures.1)
    (claim_room c.args.plan.now c.self.inside.plan.value c.self.inside.rules c.self.inside.found c.self.inside.notes c.self.inside.starved c.self.inside.core c.in-Unit.unit same c.self.invariant c.in-Unit.ensures.0)
