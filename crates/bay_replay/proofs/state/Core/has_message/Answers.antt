use Rattle.std.proofs.Common.{◌≡◌, ℕ, List, true, ap, sym, subst, ◌∙◌}
use Rattle.std.specs.Prelude.{is_some}
use Rattle.bay_core.specs.Core.{addresses_of}
use Rattle.bay_core.proofs.Piecing.{known_address}
use Rattle.flash_plan.specs.declared.unit.UnitPlan.{UnitPlan}
use Rattle.flash_plan.specs.Plan.{plan_of}
use Rattle.link_state.specs.State.{units_of}
use Rattle.run_model.specs.Link.{is_known, first_message}
use Rattle.bay_replay.proofs.Bodies.{known_here}
use Rattle.bay_replay.proofs.state.Core.has_message.Goals as goal

pub returns : goal.returns
returns g c =
    let address : c.unit.result.now.address ≡ (plan_of c.args.plan.now c.args.unit).address = ap (λ (u : UnitPlan). u.address) c.unit.ensures in
    c.has_message.ensures g.told.core.link c.requires.0.body.link (known_here c.args.plan.now c.args.self.now g.told c.args.unit c.unit.result.now.address c.requires.1 address c.requires.0.body)
    ∙ ap (λ (a : ℕ). is_some (first_message a g.told.core.link.inbox)) address
