use Rattle.outcome_law.proofs.Blocking.{kept_complete_law}
use Rattle.outcome_law.proofs.Recorded.{kept_recorded_law, kept_untroubled_law}
use Rattle.outcome_law.proofs.Runs.{kept_done_law}
use Rattle.outcome_law.proofs.laws.what_is_kept_says_as_much.Goals as goal

pub returns : goal.returns
returns c = record { goes_on = kept_done_law; recorded = kept_recorded_law; untroubled = kept_untroubled_law; complete = kept_complete_law }
