use Rattle.bay_replay.proofs.state.Core.may_send.Given as goal

abbrev pub ghost-is_open : goal.ghost-is_open
ghost-is_open g a = g.told

abbrev pub ghost-is_clear : goal.ghost-is_clear
ghost-is_clear g a = g.told
