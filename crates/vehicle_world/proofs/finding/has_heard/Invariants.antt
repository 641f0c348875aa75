use Rattle.std.proofs.Common.{◌≡◌, drop, map}
use Rattle.vehicle_world.specs.States.{has_heard, node_sim}
use Rattle.vehicle_world.proofs.finding.has_heard.Given as goal

abbrev pub invariant-loop-unit : goal.invariant-loop-unit
invariant-loop-unit l = has_heard (map node_sim (drop l.unit-index l.units)) l.address l.sid ≡ has_heard (map node_sim l.units) l.address l.sid
