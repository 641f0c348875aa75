use Rattle.std.proofs.Common.{◌≡◌, ℕ, List, refl, sym}
use Rattle.bay_core.proofs.Allowed.{FinishFacts, finish_facts}
use Rattle.flash_plan.specs.declared.outcome.Entry.TheVariants as entry
use Rattle.flash_plan.specs.declared.outcome.Outcome.TheVariants.{Complete}
use Rattle.flash_plan.specs.declared.unit.UnitPlan.{UnitPlan}
use Rattle.flash_plan.specs.Outcomes.{with_entry}
use Rattle.bay_replay.proofs.Bodies.{given_body}
use Rattle.bay_replay.proofs.Slots.{complete_here, complete_else}
use Rattle.bay_replay.proofs.state.Core.finish.Goals as goal

pub returns : goal.returns
returns g c =
    let P : List UnitPlan = c.args.plan.now in
    let u : ℕ = c.args.unit in
    let f : FinishFacts P g.told.core u = finish_facts P g.told.core u c.requires.1 in
    given_body P c.args.self.now g.told u Complete c.complete.new.self (with_entry (entry.Complete u) g.told.core.recorded) f.below c.requires.0.body c.complete.ensures
    (λ n ne. complete_else u n g.told.core.recorded ne) refl (λ n. refl) (sym (complete_here u g.told.core.recorded))
