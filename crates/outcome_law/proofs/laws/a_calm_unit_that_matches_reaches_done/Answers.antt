use Rattle.outcome_law.proofs.Blocking.{complete_law}
use Rattle.outcome_law.proofs.Recorded.{recorded_law, untroubled_law}
use Rattle.outcome_law.proofs.Runs.{done_law, obedient_law}
use Rattle.outcome_law.proofs.laws.a_calm_unit_that_matches_reaches_done.Goals as goal

pub returns : goal.returns
returns c = record { answers = obedient_law; goes_on = done_law; recorded = recorded_law; untroubled = untroubled_law; complete = complete_law }
