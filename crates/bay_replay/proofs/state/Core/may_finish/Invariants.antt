use Rattle.bay_replay.proofs.state.Core.may_finish.Given as goal

abbrev pub ghost-may_finish_at : goal.ghost-may_finish_at
ghost-may_finish_at g a = g.told
