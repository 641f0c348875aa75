use Rattle.bay_replay.proofs.state.Core.step_at.Given as goal

abbrev pub ghost-step : goal.ghost-step
ghost-step g a = g.told
