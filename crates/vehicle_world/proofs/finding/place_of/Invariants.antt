use Rattle.std.proofs.Common.{◌≡◌, drop, map}
use Rattle.vehicle_world.specs.States.{node_sim, place_from}
use Rattle.vehicle_world.proofs.finding.place_of.Given as goal

abbrev pub invariant-loop-i : goal.invariant-loop-i
invariant-loop-i l = place_from l.i l.address (map node_sim (drop l.i l.units)) ≡ place_from 0 l.address (map node_sim l.units)
