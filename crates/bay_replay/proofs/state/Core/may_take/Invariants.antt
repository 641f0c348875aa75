use Rattle.bay_replay.proofs.state.Core.may_take.Given as goal

abbrev pub ghost-may_claim : goal.ghost-may_claim
ghost-may_claim g a = g.told

abbrev pub ghost-may_begin : goal.ghost-may_begin
ghost-may_begin g a = g.told

abbrev pub ghost-may_send : goal.ghost-may_send
ghost-may_send g a = g.told

abbrev pub ghost-may_collect : goal.ghost-may_collect
ghost-may_collect g a = g.told

abbrev pub ghost-may_tend : goal.ghost-may_tend
ghost-may_tend g a = g.told

abbrev pub ghost-may_mark : goal.ghost-may_mark
ghost-may_mark g a = g.told

abbrev pub ghost-may_finish : goal.ghost-may_finish
ghost-may_finish g a = g.told

abbrev pub ghost-may_record : goal.ghost-may_record
ghost-may_record g a = g.told

abbrev pub ghost-may_end : goal.ghost-may_end
ghost-may_end g a = g.told
