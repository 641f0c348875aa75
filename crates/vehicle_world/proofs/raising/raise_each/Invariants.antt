use Rattle.std.proofs.Common.{◌≡◌, ◌++◌, drop, map, take}
use Rattle.vehicle_world.specs.States.{answer_of, node_sim}
use Rattle.vehicle_world.specs.Worlds.{raised}
use Rattle.vehicle_world.proofs.raising.raise_each.Given as goal

abbrev pub invariant-loop-i : goal.invariant-loop-i
invariant-loop-i l = map node_sim l.units.items ≡ map (raised l.tick (answer_of l.held)) (take l.i (map node_sim l.initial.units.items)) ++ drop l.i (map node_sim l.initial.units.items)
