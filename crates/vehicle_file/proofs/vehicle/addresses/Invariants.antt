use Rattle.std.proofs.Common.{◌≡◌, map, take}
use Rattle.vehicle_file.specs.Files.{address_in}
use Rattle.vehicle_file.proofs.vehicle.addresses.Given as goal

abbrev pub invariant-loop-unit : goal.invariant-loop-unit
invariant-loop-unit l = l.made ≡ map address_in (take l.unit-index l.units)
