use Rattle.std.proofs.Common.{◌≡◌, ◌++◌, drop, map}
use Rattle.unit_model.specs.Poll.{pending_of}
use Rattle.vehicle_world.specs.Holding.{AllBelow}
use Rattle.vehicle_world.specs.States.{answer_of}
use Rattle.vehicle_world.proofs.turning.pendings.Given as goal

abbrev pub invariant-loop-one : goal.invariant-loop-one
invariant-loop-one l = record {
  said : pending_of l.tick l.tester (map answer_of l.held) ≡ l.said.items ++ pending_of l.tick l.tester (map answer_of (drop l.one-index l.held));
  below : AllBelow (drop l.one-index l.held) → AllBelow l.held;
}
