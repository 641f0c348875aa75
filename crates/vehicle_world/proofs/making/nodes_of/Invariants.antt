use Rattle.std.proofs.Common.{◌≡◌, ◌++◌, drop, map}
use Rattle.flash_base.specs.Lists.{Each}
use Rattle.unit_model.specs.Running.{IsUnitSpec}
use Rattle.unit_sim.specs.Sims.{made_of}
use Rattle.vehicle_world.specs.States.{node_sim}
use Rattle.vehicle_world.proofs.making.nodes_of.Given as goal

abbrev pub invariant-loop-spec : goal.invariant-loop-spec
invariant-loop-spec l = record {
  made : map node_sim l.made.items ++ map made_of (drop l.spec-index l.specs) ≡ map made_of l.specs;
  are : Each IsUnitSpec (drop l.spec-index l.specs);
}
