use Rattle.bay_replay.proofs.state.Core.tend.Given as goal

abbrev pub ghost-poll : goal.ghost-poll
ghost-poll g a = g.told
