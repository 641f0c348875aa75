use Rattle.bay_replay.specs.Held.{told_own, told_emptied}
use Rattle.bay_replay.proofs.state.Core.take.Given as goal

abbrev pub ghost-own : goal.ghost-own
ghost-own g a = g.told

abbrev pub ghost-settle : goal.ghost-settle
ghost-settle g a = told_own a.plan.now a.event.now g.told

abbrev pub ghost-shut : goal.ghost-shut
ghost-shut g a = told_emptied g.told
