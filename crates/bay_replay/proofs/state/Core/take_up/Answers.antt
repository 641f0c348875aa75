use Rattle.std.proofs.Common.{◌≡◌, ℕ, List, true, ap, ◌∙◌}
use Rattle.std.specs.Prelude.{set}
use Rattle.std.proofs.lemmas.Bool.{and_parts}
use Rattle.bay_core.proofs.Allowed.{ClaimFacts, claim_facts}
use Rattle.flash_plan.specs.declared.unit.UnitPlan.{UnitPlan}
use Rattle.bay_replay.specs.declared.units.Unit.{Unit as Kept}
use Rattle.bay_replay.proofs.Bodies.{claimed_body}
use Rattle.bay_replay.proofs.Claiming.{claims_first}
use Rattle.bay_replay.proofs.state.Core.take_up.Goals as goal

pub take_up-requires : goal.take_up-requires
take_up-requires g c = claims_first c.args.plan.now c.args.self.now g.told c.requires.0.body c.is_accepted.ensures c.args.unit c.requires.1

pub returns : goal.returns
returns g c =
    let P : List UnitPlan = c.args.plan.now in
    let u : ℕ = c.args.unit in
    let f : ClaimFacts P g.told.core u = claim_facts P g.told.core u (and_parts _ _ (and_parts _ _ c.requires.1).0).1 in
    claimed_body P c.args.self.now g.told u c.take_up.new.self (set c.args.self.now.units u (record c.at_mut.result.now { claimed = true })) f.below c.requires.0.body f.unclaimed c.take_up.ensures
    (ap (λ (x : Kept). set c.args.self.now.units u (record x { claimed = true })) c.at_mut.ensures.value)
