use Rattle.std.proofs.Common.{◌≡◌, drop}
use Rattle.vehicle_file.specs.Units.{has_address}
use Rattle.vehicle_file.proofs.unit.has_address.Given as goal

abbrev pub invariant-loop-unit : goal.invariant-loop-unit
invariant-loop-unit l = has_address l.address l.units ≡ has_address l.address (drop l.unit-index l.units)
