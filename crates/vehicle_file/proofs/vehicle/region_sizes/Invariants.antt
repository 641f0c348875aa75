use Rattle.std.proofs.Common.{◌≡◌, ◌+◌, ◌≤◌, drop, min}
use Rattle.vehicle_file.specs.Fields.{LAST_COUNT}
use Rattle.vehicle_file.specs.Files.{region_sizes}
use Rattle.vehicle_file.proofs.vehicle.region_sizes.Given as goal

abbrev pub invariant-loop-region : goal.invariant-loop-region
invariant-loop-region l = record {
  same : min (region_sizes l.regions) LAST_COUNT ≡ min (l.all + region_sizes (drop l.region-index l.regions)) LAST_COUNT;
  fits : l.all ≤ LAST_COUNT;
}
