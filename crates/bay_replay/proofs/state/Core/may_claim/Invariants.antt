use Rattle.bay_replay.proofs.state.Core.may_claim.Given as goal

abbrev pub ghost-next_claim : goal.ghost-next_claim
ghost-next_claim g a = g.told
