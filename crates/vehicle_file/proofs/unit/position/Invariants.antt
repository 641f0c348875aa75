use Rattle.std.proofs.Common.{◌≡◌, drop}
use Rattle.vehicle_file.specs.Units.{position_from}
use Rattle.vehicle_file.proofs.unit.position.Given as goal

abbrev pub invariant-loop-i : goal.invariant-loop-i
invariant-loop-i l = position_from 0 l.did l.found ≡ position_from l.i l.did (drop l.i l.found)
