-- The vehicle of a drill: obedient units that were never begun, one for each task of its plan.
use Rattle.std.specs.Prelude.{ℕ, ◌+◌, false, List, [], ◌∷◌, codes, map, None}
use Rattle.bench_gen.specs.Sizes.{base, bytes_of}
use Rattle.drill_law.specs.Plans.{for_units, key_rule}
use Rattle.unit_model.specs.declared.spec.RegionSpec.{RegionSpec}
use Rattle.unit_model.specs.declared.spec.UnitSpec.{UnitSpec}
use Rattle.vehicle_file.specs.Files.{address_in}
use Rattle.vehicle_file.specs.declared.vehicle.VehicleSpec.{VehicleSpec}

-- where its image goes, every byte FF
abbrev pub region : ℕ → RegionSpec
region n = record { at = base; size = bytes_of n; fill = 255 }

abbrev pub unit_spec : ℕ → ℕ → UnitSpec
unit_spec n k = record {
  address = 4096 + k;
  regions = region n ∷ [];
  bytes = [];
  idents = (61845, codes "OLD") ∷ [];
  key = key_rule;
  seed = 18 ∷ 52 ∷ [];
  block = 4095;
  check = 514;
  checked = [];
  passed = false;
  heard = 0;
  troubles = [];
  kind = 1;
  unlocked = false;
  last_seed = None;
  transfer = None;
  dtc_off = false;
  messages_off = false;
}

abbrev pub unit_specs : ℕ → List UnitSpec
unit_specs n = for_units (unit_spec n) n

-- entity 4000, without troubles
abbrev pub vehicle_of_drill : ℕ → VehicleSpec
vehicle_of_drill n = record {
  gateway = record { entity = 16384; gateway = []; units = map address_in (unit_specs n) };
  units = unit_specs n;
}
