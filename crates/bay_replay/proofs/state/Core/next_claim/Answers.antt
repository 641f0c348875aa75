use Rattle.std.proofs.Common.{◌≡◌, None, Some, sym, ap, ◌∙◌}
use Rattle.std.specs.Prelude.{Option, is_some}
use Rattle.flash_plan.specs.declared.outcome.Outcome.{Outcome}
use Rattle.bay_core.specs.Core.{Halt}
use Rattle.bay_replay.proofs.Bodies.{not_some, some_there}
use Rattle.bay_replay.proofs.Claiming.{next_claims, stopped_claims}
use Rattle.bay_replay.proofs.state.Core.next_claim.Goals as goal

pub returns-then-is_some : goal.returns-then-is_some
returns-then-is_some g c = λ u.
    let x : (o : Outcome) × (c.args.self.now.halt.stop ≡ Some o) = some_there c.args.self.now.halt.stop (sym c.is_some.ensures ∙ c.if-is_some.true) in
    stopped_claims c.args.plan.now c.args.self.now g.told c.requires.body c.is_accepted.ensures x.0 (sym (ap (λ (h : Halt). h.stop) c.requires.body.halt) ∙ x.1) u

pub returns : goal.returns
returns g c =
    next_claims c.args.plan.now c.args.self.now g.told c.requires.body c.is_accepted.ensures c.next_free.result
    (sym (ap (λ (h : Halt). h.stop) c.requires.body.halt) ∙ not_some c.args.self.now.halt.stop (sym c.is_some.ensures ∙ c.if-is_some.false)) c.next_free.ensures
