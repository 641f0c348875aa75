use Rattle.bay_replay.specs.Held.{told_emptied}
use Rattle.bay_replay.proofs.state.Core.starve.Given as goal

abbrev pub ghost-shut : goal.ghost-shut
ghost-shut g a = told_emptied g.told
