use Rattle.std.proofs.Common.{◌≡◌, ℕ, List, true, ap, ◌∙◌}
use Rattle.std.specs.Prelude.{set}
use Rattle.flash_plan.specs.declared.unit.UnitPlan.{UnitPlan}
use Rattle.bay_replay.specs.declared.units.Unit.{Unit as Kept}
use Rattle.bay_replay.proofs.Bodies.{failed_body, recorder_below}
use Rattle.bay_replay.proofs.state.Core.fail.Goals as goal

pub returns : goal.returns
returns g c =
    let P : List UnitPlan = c.args.plan.now in
    let u : ℕ = c.args.unit in
    failed_body P c.args.self.now g.told u c.args._entry (set c.args.self.now.units u (record c.at_mut.result.now { faulted = true })) (recorder_below P g.told.core u c.args._entry c.requires.1) c.requires.0.body
    (ap (λ (x : Kept). set c.args.self.now.units u (record x { faulted = true })) c.at_mut.ensures.value)
