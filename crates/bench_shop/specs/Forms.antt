-- A fact on the spec of a vehicle has one proof.
use Rattle.std.specs.Prelude.{List, [], ◌∷◌}
use Rattle.std.specs.Coded.{×_prop, Unit-prop}
use Rattle.std.proofs.Props.{props}
use Rattle.flash_base.specs.Lists.{Each}
use Rattle.unit_model.specs.Running.{IsUnitSpec}
use Rattle.unit_model.specs.declared.spec.UnitSpec.{UnitSpec}
use Rattle.vehicle_world.specs.Saving.{IsVehicleSpec}
use Rattle.vehicle_world.specs.declared.spec.VehicleSpec.{VehicleSpec}

pub Each-prop : {T : Type 0} (P : T → Type 0) → ((x : T) → IsProp (P x)) → (xs : List T) → IsProp (Each P xs)
Each-prop P p [] = Unit-prop
Each-prop P p (x ∷ xs) = ×_prop (p x) (Each-prop P p xs)

pub IsUnitSpec-prop : (spec : UnitSpec) → IsProp (IsUnitSpec spec)
IsUnitSpec-prop spec = hlevel props

pub IsVehicleSpec-prop : (spec : VehicleSpec) → IsProp (IsVehicleSpec spec)
IsVehicleSpec-prop spec = hlevel (props, Each-prop IsUnitSpec IsUnitSpec-prop spec.units)
