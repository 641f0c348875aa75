use Rattle.std.proofs.Common.{map}
use Rattle.vehicle_world.specs.States.{node_sim}
use Rattle.vehicle_world.proofs.Specs.{saves_end}
use Rattle.vehicle_world.proofs.making.specs_of.Goals as goal

pub returns-clause-is : goal.returns-clause-is
returns-clause-is c = saves_end (map node_sim c.args.units.now) (map node_sim c.args.units.now) c.args.units.now c.loop-node.node-index c.loop-node.made c.loop-node-test.false c.loop-node.invariant.save
