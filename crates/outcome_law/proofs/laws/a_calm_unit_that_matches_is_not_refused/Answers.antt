use Rattle.outcome_law.proofs.Runs.{calm_law, matching_law}
use Rattle.outcome_law.proofs.laws.a_calm_unit_that_matches_is_not_refused.Goals as goal

pub returns : goal.returns
returns c = record { unfit = calm_law; matching = matching_law }
