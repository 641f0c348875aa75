use Rattle.bay_replay.proofs.state.Core.may_end.Given as goal

abbrev pub ghost-has_ended : goal.ghost-has_ended
ghost-has_ended g a = g.told

abbrev pub ghost-is_stopped : goal.ghost-is_stopped
ghost-is_stopped g a = g.told

abbrev pub ghost-is_blocked : goal.ghost-is_blocked
ghost-is_blocked g a = g.told
