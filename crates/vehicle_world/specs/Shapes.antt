-- What every call of a simulated vehicle leaves as it is.
use Rattle.std.specs.Prelude.{◌≡◌, ℕ, List, length, map}
use Rattle.unit_model.specs.Unit.{ControlUnit}
use Rattle.unit_model.specs.Vehicle.{Vehicle}
use Rattle.vehicle_world.specs.Worlds.{Simulated}

-- the logical address, the identifiers with their values, and how many bytes of memory there are
pub record Shape : Type 0 where
  pub address : ℕ
  pub idents : List (ℕ × List ℕ)
  pub size : ℕ

abbrev pub shape : ControlUnit → Shape
shape u = record { address = u.address; idents = u.idents; size = length u.memory }

-- of the units in their order
abbrev pub shapes : Vehicle → List Shape
shapes v = map shape v.units

abbrev pub KeepsShapes : Simulated → Simulated → Type 0
KeepsShapes old new = shapes new.vehicle ≡ shapes old.vehicle
