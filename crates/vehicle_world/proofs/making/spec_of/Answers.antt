use Rattle.std.proofs.Common.{map}
use Rattle.vehicle_world.specs.States.{node_sim}
use Rattle.vehicle_world.proofs.Specs.{saves_unit, still_spec}
use Rattle.vehicle_world.proofs.making.spec_of.Goals as goal

pub returns-clause-is : goal.returns-clause-is
returns-clause-is c = saves_unit (map node_sim c.args.units.now) (node_sim c.args.node.now) _ _ c.with_unmet.ensures c.in_ok-spec.ensures

pub returns-clause-form : goal.returns-clause-form
returns-clause-form c = still_spec (map node_sim c.args.units.now) _ _ c.with_unmet.ensures c.in_ok-spec.ensures.is
