use Rattle.bay_replay.proofs.state.Core.may_collect.Given as goal

abbrev pub ghost-is_open : goal.ghost-is_open
ghost-is_open g a = g.told

abbrev pub ghost-is_clear : goal.ghost-is_clear
ghost-is_clear g a = g.told

abbrev pub ghost-has_message : goal.ghost-has_message
ghost-has_message g a = g.told
