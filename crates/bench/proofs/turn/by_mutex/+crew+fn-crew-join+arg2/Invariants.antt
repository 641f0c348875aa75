use Rattle.bench.proofs.turn.by_mutex.+crew+fn-crew-join+arg2.Given as goal

abbrev pub decreases-join+arg2 : goal.decreases-join+arg2
decreases-join+arg2 g l = l.rest

abbrev pub decreases-crew : goal.decreases-crew
decreases-crew g l = l.count
