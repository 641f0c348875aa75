use Rattle.unit_session.proofs.Ends.{ends_are_caused}
use Rattle.unit_session.proofs.laws.each_end_has_its_cause.Goals as goal

pub returns : goal.returns
returns c = ends_are_caused
