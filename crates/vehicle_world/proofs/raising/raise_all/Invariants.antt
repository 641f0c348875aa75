use Rattle.std.proofs.Common.{◌≡◌, drop, map}
use Rattle.vehicle_world.specs.States.{answer_of, node_sim}
use Rattle.vehicle_world.specs.Worlds.{all_raised}
use Rattle.vehicle_world.proofs.raising.raise_all.Given as goal

abbrev pub invariant-loop-one : goal.invariant-loop-one
invariant-loop-one l = all_raised l.tick (map answer_of (drop l.one-index l.held)) (map node_sim l.units.items) ≡ all_raised l.tick (map answer_of l.held) (map node_sim l.initial.units.items)
