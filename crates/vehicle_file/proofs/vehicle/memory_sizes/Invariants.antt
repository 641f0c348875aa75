use Rattle.std.proofs.Common.{◌≡◌, ◌+◌, ◌≤◌, drop, min}
use Rattle.vehicle_file.specs.Fields.{LAST_COUNT}
use Rattle.vehicle_file.specs.Files.{memory_sizes}
use Rattle.vehicle_file.proofs.vehicle.memory_sizes.Given as goal

abbrev pub invariant-loop-unit : goal.invariant-loop-unit
invariant-loop-unit l = record {
  same : min (memory_sizes l.units) LAST_COUNT ≡ min (l.all + memory_sizes (drop l.unit-index l.units)) LAST_COUNT;
  fits : l.all ≤ LAST_COUNT;
}
