use Rattle.std.proofs.Common.{◌≡◌, ◌++◌, drop, map, take}
use Rattle.vehicle_world.specs.Holding.{AllBelow, held_once}
use Rattle.vehicle_world.specs.States.{answer_of}
use Rattle.vehicle_world.proofs.turning.count_turns.Given as goal

abbrev pub invariant-loop-i : goal.invariant-loop-i
invariant-loop-i l = record {
  are : map answer_of l.held.items ≡ map (held_once l.tick) (take l.i (map answer_of l.initial.held.items)) ++ drop l.i (map answer_of l.initial.held.items);
  below : AllBelow (drop l.i l.held.items);
}
