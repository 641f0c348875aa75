-- The text of a vehicle.
use Rattle.std.specs.Prelude.{ℕ, ◌+◌, ◌&&◌, not, nat_le, nat_lt, Bool, true, List, [], ◌∷◌, ◌++◌, length, codes, Some, IsTrue}
use Rattle.serde_json.specs.Data.{Data}
use Rattle.serde_json.specs.Written.{compact_text}
use Rattle.flash_base.specs.Lists.{Each}
use Rattle.unit_model.specs.RegionTests.{LIMIT}
use Rattle.unit_model.specs.declared.spec.PatchSpec.{PatchSpec}
use Rattle.unit_model.specs.declared.spec.UnitSpec.{UnitSpec}
use Rattle.vehicle_file.specs.Files.{IsVehicleSpec, is_few}
use Rattle.vehicle_file.specs.Units.{has_address}
use Rattle.vehicle_file.specs.declared.vehicle.VehicleSpec.{VehicleSpec}
use Rattle.vehicle_text.specs.Forms.{four_data}
use Rattle.vehicle_text.specs.Objects.{Fields, object_in}
use Rattle.vehicle_text.specs.Troubles.{gate_data}
use Rattle.vehicle_text.specs.Units.{list_data, list_given, unit_data}

abbrev pub vehicle_fields : VehicleSpec → Fields
vehicle_fields v =
    (codes "entity", Some (four_data v.gateway.entity)) ∷ (codes "units", Some (list_data unit_data v.units))
    ∷ (codes "gateway", list_given gate_data v.gateway.gateway) ∷ []

abbrev pub vehicle_data : VehicleSpec → Data
vehicle_data v = object_in (vehicle_fields v)

-- the text: JSON without blanks, the members of an object in the order in which they are listed
abbrev pub text_of : VehicleSpec → List ℕ
text_of v = compact_text (vehicle_data v)

-- ------ which vehicles a file can say
-- identifiers in ascending order, each once
abbrev pub ascend : List (ℕ × List ℕ) → Bool
ascend [] = true
ascend (i ∷ []) = true
ascend (i ∷ (j ∷ js)) = nat_lt i.0 j.0 && ascend (j ∷ js)

-- bytes lie below the limit of addresses
abbrev pub lie_low : List PatchSpec → Bool
lie_low [] = true
lie_low (p ∷ ps) = (nat_lt p.at LIMIT && nat_le (p.at + length p.bytes) LIMIT) && lie_low ps

pub record IsSaidUnit (u : UnitSpec) : Type 0 where
  pub idents : IsTrue (ascend u.idents)
  pub bytes : IsTrue (lie_low u.bytes)

-- none has the address of one before it
abbrev pub new_from : List UnitSpec → List UnitSpec → Bool
new_from before [] = true
new_from before (u ∷ us) = not (has_address u.address before) && new_from (before ++ u ∷ []) us

-- a vehicle that a file can say
pub record IsSaid (v : VehicleSpec) : Type 0 where
  pub is : IsVehicleSpec v
  pub units : Each IsSaidUnit v.units
  pub addresses : IsTrue (new_from [] v.units)
  pub few : IsTrue (is_few v)
