use Rattle.std.proofs.Common.{◌≡◌, ℕ, List, true, ap, ◌∙◌}
use Rattle.std.specs.Prelude.{set}
use Rattle.bay_core.proofs.Allowed.{BeginFacts, begin_facts, open_claimed}
use Rattle.flash_plan.specs.declared.unit.UnitPlan.{UnitPlan}
use Rattle.flash_plan.specs.Plan.{plan_of}
use Rattle.run_model.specs.Talk.{talk_start}
use Rattle.unit_session.specs.Session.{talk_of}
use Rattle.bay_replay.specs.declared.units.Unit.{Unit as Kept}
use Rattle.bay_replay.proofs.Bodies.{begun_body}
use Rattle.bay_replay.proofs.state.Core.begin.Goals as goal

pub returns : goal.returns
returns g c =
    let P : List UnitPlan = c.args.plan.now in
    let u : ℕ = c.args.unit in
    let f : BeginFacts P g.told.core u = begin_facts P g.told.core u c.requires.1 in
    begun_body P c.args.self.now g.told u (set c.args.self.now.units u (record c.at_mut-kept.result.now { begun = true; session = c.begun.new.self })) c.begun.new.self f.below c.requires.0.body (open_claimed P g.told.core u f.opened)
    (ap (λ (x : Kept). set c.args.self.now.units u (record x { begun = true; session = c.begun.new.self })) c.at_mut-kept.ensures.value) c.begun.ensures.begun
    (c.begun.ensures.talk (plan_of P u) ∙ ap (λ (x : Kept). talk_start (plan_of P u) true (talk_of (plan_of P u) x.session).marks) c.at_mut-kept.ensures.value)
    (c.begun.ensures.of (plan_of P u) (c.is_accepted.ensures.each u f.below))
