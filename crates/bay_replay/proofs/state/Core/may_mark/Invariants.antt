use Rattle.bay_replay.proofs.state.Core.may_mark.Given as goal

abbrev pub ghost-may_mark_at : goal.ghost-may_mark_at
ghost-may_mark_at g a = g.told
