use Rattle.span_store.proofs.Fronts.{walked}
use Rattle.span_store.proofs.walk.walking_law.Goals as goal

pub returns : goal.returns
returns c = walked
