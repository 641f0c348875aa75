use Rattle.core_tests.proofs.asking.claimed.Given as goal

abbrev pub ghost-claim_next : goal.ghost-claim_next
ghost-claim_next g a = g.told
