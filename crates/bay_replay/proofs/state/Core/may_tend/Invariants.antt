use Rattle.bay_replay.proofs.state.Core.may_tend.Given as goal

abbrev pub ghost-may_poll : goal.ghost-may_poll
ghost-may_poll g a = g.told
