use Rattle.bay_replay.proofs.state.Core.step.Given as goal

abbrev pub ghost-may_take : goal.ghost-may_take
ghost-may_take g a = g.told

abbrev pub ghost-take : goal.ghost-take
ghost-take g a = g.told
