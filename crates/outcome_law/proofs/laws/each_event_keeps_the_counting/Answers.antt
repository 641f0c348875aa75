use Rattle.outcome_law.proofs.Recorded.{start_law, outcome_counting_law, counted_law}
use Rattle.outcome_law.proofs.Runs.{counting_law}
use Rattle.outcome_law.proofs.laws.each_event_keeps_the_counting.Goals as goal

pub returns : goal.returns
returns c = record { start = start_law; units = counting_law; outcomes = outcome_counting_law; says = counted_law }
