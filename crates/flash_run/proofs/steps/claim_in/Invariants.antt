use Rattle.flash_run.proofs.steps.claim_in.Given as goal

abbrev pub ghost-claim_next : goal.ghost-claim_next
ghost-claim_next g a = g.told
