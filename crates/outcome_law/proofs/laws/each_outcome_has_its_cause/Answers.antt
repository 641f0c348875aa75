use Rattle.outcome_law.proofs.Recorded.{outcome_law}
use Rattle.outcome_law.proofs.Runs.{cause_law}
use Rattle.outcome_law.proofs.laws.each_outcome_has_its_cause.Goals as goal

pub returns : goal.returns
returns c = record { conversations = cause_law; outcomes = outcome_law }
