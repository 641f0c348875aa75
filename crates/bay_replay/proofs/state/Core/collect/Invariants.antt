use Rattle.bay_replay.proofs.state.Core.collect.Given as goal

abbrev pub ghost-collect_kept : goal.ghost-collect_kept
ghost-collect_kept g a = g.told

abbrev pub ghost-collect_quiet : goal.ghost-collect_quiet
ghost-collect_quiet g a = g.told

abbrev pub ghost-collect_piece : goal.ghost-collect_piece
ghost-collect_piece g a = g.told

abbrev pub ghost-collect_lost : goal.ghost-collect_lost
ghost-collect_lost g a = g.told
