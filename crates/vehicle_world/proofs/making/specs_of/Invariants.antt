use Rattle.std.proofs.Common.{◌++◌, List, drop, map}
use Rattle.flash_base.specs.Lists.{Each}
use Rattle.unit_model.specs.Running.{IsUnitSpec}
use Rattle.unit_model.specs.declared.spec.UnitSpec.{UnitSpec}
use Rattle.vehicle_world.specs.Saving.{SaveUnits}
use Rattle.vehicle_world.specs.States.{node_sim}
use Rattle.vehicle_world.proofs.making.specs_of.Given as goal

abbrev pub invariant-loop-node : goal.invariant-loop-node
invariant-loop-node l = record {
  are : Each IsUnitSpec l.made;
  save : (rest : List UnitSpec) → SaveUnits (map node_sim l.units) (map node_sim (drop l.node-index l.units)) rest → SaveUnits (map node_sim l.units) (map node_sim l.units) (l.made ++ rest);
}
