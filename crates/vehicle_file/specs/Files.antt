-- The vehicle that the bytes of a file say, or the first refusal.
use Rattle.std.specs.Prelude.{◌≡◌, ℕ, ◌+◌, ◌&&◌, ◌||◌, nat_le, Bool, List, [], ◌∷◌, length, map, codes, bytes_eq, Option, Some, None, Result, Ok, Err, if◌then◌else◌}
use Rattle.std.specs.Str.{is_utf8}
use Rattle.serde_json.specs.Data.{Data}
use Rattle.serde_json.specs.Read.{read}
use Rattle.flash_base.specs.Lists.{Each}
use Rattle.gateway_sim.specs.Troubles.{IsGatewaySpec}
use Rattle.unit_model.specs.Running.{IsUnitSpec}
use Rattle.unit_model.specs.declared.spec.RegionSpec.{RegionSpec}
use Rattle.unit_model.specs.declared.spec.UnitSpec.{UnitSpec}
use Rattle.vehicle_file.specs.Fields.{Reading, ◌>>=◌, chosen, four, needed, object_of}
use Rattle.vehicle_file.specs.Troubles.{gate_troubles}
use Rattle.vehicle_file.specs.Units.{units}
use Rattle.vehicle_file.specs.declared.fault.BenchFault.{BenchFault}
use Rattle.vehicle_file.specs.declared.fault.BenchFault.TheVariants as bench
use Rattle.vehicle_file.specs.declared.fault.Refused.{Refused}
use Rattle.vehicle_file.specs.declared.fault.Refused.TheVariants.{Bad, NoMemory}
use Rattle.vehicle_file.specs.declared.vehicle.VehicleSpec.{VehicleSpec}

abbrev pub MOST_UNITS : ℕ
MOST_UNITS = 64

abbrev pub MOST_MEMORY : ℕ
MOST_MEMORY = 67108864

abbrev pub address_in : UnitSpec → ℕ
address_in u = u.address

abbrev pub vehicle_members : Data → Reading VehicleSpec
vehicle_members o =
    needed (codes "entity") four o >>= λ entity.
    needed (codes "units") units o >>= λ us.
    chosen (codes "gateway") [] gate_troubles o >>= λ troubles.
    Ok (record {
      gateway = record { entity = entity; gateway = troubles; units = map address_in us };
      units = us;
    })

abbrev pub is_vehicle_member : List ℕ → Bool
is_vehicle_member name =
    bytes_eq name (codes "entity") || bytes_eq name (codes "units") || bytes_eq name (codes "gateway")

abbrev pub vehicle : Data → Reading VehicleSpec
vehicle d = object_of is_vehicle_member vehicle_members d

-- ------ sizes
abbrev pub region_sizes : List RegionSpec → ℕ
region_sizes [] = 0
region_sizes (r ∷ rs) = r.size + region_sizes rs

abbrev pub memory_sizes : List UnitSpec → ℕ
memory_sizes [] = 0
memory_sizes (u ∷ us) = region_sizes u.regions + memory_sizes us

abbrev pub is_few : VehicleSpec → Bool
is_few v = nat_le (length v.units) MOST_UNITS && nat_le (memory_sizes v.units) MOST_MEMORY

-- ------ the whole
-- the document itself has the path `/`
abbrev pub path_of : List ℕ → List ℕ
path_of [] = 47 ∷ []
path_of (b ∷ bs) = b ∷ bs

abbrev pub fault_of : Refused → BenchFault
fault_of (Bad path) = bench.BadField (path_of path)
fault_of NoMemory = bench.NoMemory

abbrev pub few_of : Reading VehicleSpec → Result VehicleSpec BenchFault
few_of (Err e) = Err (fault_of e)
few_of (Ok v) = if is_few v then Ok v else Err bench.TooMany

abbrev pub vehicle_from : Option Data → Result VehicleSpec BenchFault
vehicle_from None = Err bench.NotJson
vehicle_from (Some d) = few_of (vehicle d)

-- the value of a JSON text: UTF-8, and as `serde_json` reads it
abbrev pub value_in : List ℕ → Option Data
value_in bytes = if is_utf8 bytes then read bytes else None

abbrev pub vehicle_of : List ℕ → Result VehicleSpec BenchFault
vehicle_of bytes = vehicle_from (value_in bytes)

-- what simulators may be made of
pub record IsVehicleSpec (v : VehicleSpec) : Type 0 where
  pub gateway : IsGatewaySpec v.gateway
  pub units : Each IsUnitSpec v.units
  pub addresses : v.gateway.units ≡ map address_in v.units
