use Rattle.bay_replay.proofs.state.Core.may_record.Given as goal

abbrev pub ghost-may_begin_at : goal.ghost-may_begin_at
ghost-may_begin_at g a = g.told

abbrev pub ghost-may_mark_at : goal.ghost-may_mark_at
ghost-may_mark_at g a = g.told

abbrev pub ghost-may_finish_at : goal.ghost-may_finish_at
ghost-may_finish_at g a = g.told
