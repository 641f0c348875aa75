use Rattle.link_law.proofs.Worked.{worked}
use Rattle.link_law.proofs.laws.worked_connections.Goals as goal

pub returns : goal.returns
returns c = worked
