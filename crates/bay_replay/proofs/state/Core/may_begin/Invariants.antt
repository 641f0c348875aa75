use Rattle.bay_replay.proofs.state.Core.may_begin.Given as goal

abbrev pub ghost-may_begin_at : goal.ghost-may_begin_at
ghost-may_begin_at g a = g.told
