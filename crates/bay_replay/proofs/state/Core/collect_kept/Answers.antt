use Rattle.std.proofs.Common.{◌≡◌, ap, ◌∙◌}
use Rattle.bay_core.proofs.Allowed.{CollectedFacts, collected_facts}
use Rattle.bay_core.specs.declared.event.Heard.TheVariants.{Kept}
use Rattle.run_model.specs.Talk.{Talk}
use Rattle.bay_replay.proofs.state.Core.collect_kept.Goals as goal

pub hear-requires : goal.hear-requires
hear-requires g c =
    let f : CollectedFacts c.args.plan.now g.told.core c.args.unit Kept = collected_facts c.args.plan.now g.told.core c.args.unit Kept c.requires.1 in
    let slot = c.requires.0.body.slots c.args.unit f.below in
    record { within = f.below; size = c.requires.0.body.units; fits = slot.fits; waits = ap (λ (t : Talk). t.awaiting) slot.talk ∙ f.awaiting }

pub returns : goal.returns
returns g c =
    let f : CollectedFacts c.args.plan.now g.told.core c.args.unit Kept = collected_facts c.args.plan.now g.told.core c.args.unit Kept c.requires.1 in
    c.hear.ensures g.told c.requires.0.body f.claimed
