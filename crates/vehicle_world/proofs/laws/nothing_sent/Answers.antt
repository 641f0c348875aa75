use Rattle.vehicle_world.proofs.Nothing.{feeds_nothing}
use Rattle.vehicle_world.proofs.laws.nothing_sent.Goals as goal

pub returns : goal.returns
returns c = feeds_nothing c.args._world.now
