use Rattle.bay_replay.proofs.state.Core.own.Given as goal

abbrev pub ghost-take_up : goal.ghost-take_up
ghost-take_up g a = g.told

abbrev pub ghost-begin : goal.ghost-begin
ghost-begin g a = g.told

abbrev pub ghost-send : goal.ghost-send
ghost-send g a = g.told

abbrev pub ghost-collect : goal.ghost-collect
ghost-collect g a = g.told

abbrev pub ghost-tend : goal.ghost-tend
ghost-tend g a = g.told

abbrev pub ghost-mark : goal.ghost-mark
ghost-mark g a = g.told

abbrev pub ghost-finish : goal.ghost-finish
ghost-finish g a = g.told

abbrev pub ghost-fail : goal.ghost-fail
ghost-fail g a = g.told

abbrev pub ghost-end : goal.ghost-end
ghost-end g a = g.told
