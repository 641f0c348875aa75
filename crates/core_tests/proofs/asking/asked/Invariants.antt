use Rattle.core_tests.proofs.asking.asked.Given as goal

abbrev pub ghost-is_open : goal.ghost-is_open
ghost-is_open g a = g.told

abbrev pub ghost-may_begin : goal.ghost-may_begin
ghost-may_begin g a = g.told

abbrev pub ghost-may_send : goal.ghost-may_send
ghost-may_send g a = g.told

abbrev pub ghost-may_end : goal.ghost-may_end
ghost-may_end g a = g.told
