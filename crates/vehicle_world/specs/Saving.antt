-- A simulated vehicle as a spec: new connection, tick 0, counts begun anew, and the troubles that remain.
use Rattle.std.specs.Prelude.{◌≡◌, ℕ, ◌-◌, Bool, false, not, nat_le, List, [], ◌∷◌, map, filter, None, if◌then◌else◌}
use Rattle.flash_base.specs.Lists.{Each}
use Rattle.unit_model.specs.Running.{IsUnitSpec, calm, unit_of}
use Rattle.unit_model.specs.Unit.{ControlUnit}
use Rattle.unit_model.specs.Vehicle.{Vehicle}
use Rattle.unit_model.specs.declared.spec.Act.{Act}
use Rattle.unit_model.specs.declared.spec.Act.TheVariants.{Refuse, Odd, Fail, Mute, Delay, Busy, Pending}
use Rattle.unit_model.specs.declared.spec.TroubleSpec.{TroubleSpec}
use Rattle.unit_model.specs.declared.spec.UnitSpec.{UnitSpec}
use Rattle.unit_model.specs.declared.spec.Until.{Until}
use Rattle.unit_model.specs.declared.spec.Until.TheVariants.{Times, Heard}
use Rattle.unit_sim.specs.Sims.{Sim}
use Rattle.gateway_sim.specs.Saving.{left_at}
use Rattle.gateway_sim.specs.Troubles.{IsGatewaySpec}
use Rattle.vehicle_world.specs.declared.spec.VehicleSpec.{VehicleSpec}
use Rattle.vehicle_world.specs.States.{State, has_heard}

abbrev pub address_in : UnitSpec → ℕ
address_in u = u.address

-- What a vehicle may be made of: the gateway has the addresses of the units in their order.
pub record IsVehicleSpec (v : VehicleSpec) : Type 0 where
  pub gateway : IsGatewaySpec v.gateway
  pub units : Each IsUnitSpec v.units
  pub addresses : v.gateway.units ≡ map address_in v.units

-- ------ troubles
abbrev pub until_met : List Sim → Until → Bool
until_met sims (Times times) = false
until_met sims (Heard unit sid) = has_heard sims unit sid

-- responses pending until a unit has heard what it has heard already
abbrev pub is_met : List Sim → Act → Bool
is_met sims (Pending ticks until) = until_met sims until
is_met sims (Refuse nrc) = false
is_met sims (Odd bytes) = false
is_met sims (Fail status) = false
is_met sims Mute = false
is_met sims (Delay ticks) = false
is_met sims (Busy times) = false

-- the troubles that remain
abbrev pub unmet : List Sim → List TroubleSpec → List TroubleSpec
unmet sims ts = filter (λ t. not (is_met sims t.act)) ts

-- ------ units
pub record SavesUnit (sims : List Sim) (s : Sim) (spec : UnitSpec) : Type 0 where
  pub unit : unit_of spec ≡ record s.unit { woken = 0; counts = calm }
  pub troubles : spec.troubles ≡ unmet sims s.troubles

abbrev pub SaveUnits : List Sim → List Sim → List UnitSpec → Type 0
SaveUnits sims [] [] = Unit {0}
SaveUnits sims [] (u ∷ us) = ⊥
SaveUnits sims (s ∷ ss) [] = ⊥
SaveUnits sims (s ∷ ss) (u ∷ us) = SavesUnit sims s u × SaveUnits sims ss us

-- ------ the whole
pub record SavesState (s : State) (spec : VehicleSpec) : Type 0 where
  pub is : IsVehicleSpec spec
  pub entity : spec.gateway.entity ≡ s.gate.gateway.entity
  pub gateway : spec.gateway.gateway ≡ left_at s.gate.gateway.tick s.gate.troubles
  pub units : SaveUnits s.sims s.sims spec.units

-- ------ the vehicle on a new connection at tick 0
-- an alive check that was sent is over; the tick of another is lowered by the present one
abbrev pub alive_left : ℕ → List ℕ → List ℕ
alive_left now [] = []
alive_left now (t ∷ ts) = if nat_le t now then alive_left now ts else (t - now) ∷ alive_left now ts

abbrev pub rested : ControlUnit → ControlUnit
rested u = record u { woken = 0; counts = calm }

abbrev pub anew : Vehicle → Vehicle
anew v = record {
  gateway = record {
    entity = v.gateway.entity;
    active = None;
    deaf = false;
    unfinished = [];
    ready = [];
    later = [];
    held = [];
    carried = [];
    tick = 0;
    alive = alive_left v.gateway.tick v.gateway.alive;
    denied = λ code. 0;
    silent = 0;
  };
  units = map rested v.units;
}
