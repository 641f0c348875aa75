use Rattle.bay_replay.proofs.state.Core.settle.Given as goal

abbrev pub ghost-lose_units : goal.ghost-lose_units
ghost-lose_units g a = g.told
