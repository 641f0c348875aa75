use Rattle.std.proofs.Common.{◌≡◌, drop}
use Rattle.flash_base.specs.ByteMaps.{byte_at}
use Rattle.unit_model.specs.Regions.{filled}
use Rattle.vehicle_file.proofs.memory.left_from.Given as goal

abbrev pub invariant-loop-region : goal.invariant-loop-region
invariant-loop-region l = byte_at (filled l.regions) l.at ≡ byte_at (filled (drop l.region-index l.regions)) l.at
