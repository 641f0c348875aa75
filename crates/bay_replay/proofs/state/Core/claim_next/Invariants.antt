use Rattle.bay_core.specs.declared.event.Event.TheVariants.{Claimed}
use Rattle.bay_replay.specs.Held.{told_own}
use Rattle.bay_replay.proofs.state.Core.claim_next.Given as goal

abbrev pub ghost-next_claim : goal.ghost-next_claim
ghost-next_claim g a = g.told

abbrev pub ghost-take_up : goal.ghost-take_up
ghost-take_up g a = g.told

abbrev pub ghost-settle : goal.ghost-settle
ghost-settle g a = told_own a.plan.now a.event.now g.told
