-- What the tests of a file find, in their order.
use Rattle.std.specs.Prelude.{ℕ, List, if◌then◌else◌}
use Rattle.journal_model.specs.Records.{Label, is_fresh, is_headed, says_digest, is_standing}

-- not made yet; no journal; a journal of another plan; one of this plan
pub data Tested : Type 0 where
  NotMade : Tested
  NoJournal : Tested
  OfOtherPlan : Tested
  OfThisPlan : Tested

abbrev pub tested : Label → List ℕ → Tested
tested P image =
    if is_fresh image then NotMade
    else (if is_headed image
    then (if says_digest P image 0 then (if is_standing P image then OfThisPlan else NoJournal)
    else OfOtherPlan)
    else NoJournal)
