use Rattle.unit_sim.proofs.Held.{may_come}
use Rattle.unit_sim.proofs.laws.held_may_come.Goals as goal

pub returns : goal.returns
returns c = may_come
