use Rattle.std.proofs.Common.{◌≡◌, map, take}
use Rattle.vehicle_world.specs.Saving.{address_in}
use Rattle.vehicle_world.proofs.making.addresses.Given as goal

abbrev pub invariant-loop-spec : goal.invariant-loop-spec
invariant-loop-spec l = l.made ≡ map address_in (take l.spec-index l.specs)
