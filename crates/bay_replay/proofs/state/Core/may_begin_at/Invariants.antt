use Rattle.bay_replay.proofs.state.Core.may_begin_at.Given as goal

abbrev pub ghost-is_open : goal.ghost-is_open
ghost-is_open g a = g.told
