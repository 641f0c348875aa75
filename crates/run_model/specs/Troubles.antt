-- The troubles of a run: how often something failed or departed, by each count.
use Rattle.std.specs.Prelude.{◌≡◌, ℕ, ◌-◌, nat_le, Option, Some, None, if◌then◌else◌}
use Rattle.shop_model.specs.History.{History, vehicle_now}
use Rattle.flash_base.specs.Counts.{LAST_COUNT}
use Rattle.unit_model.specs.Unit.{ControlUnit, Counts}
use Rattle.unit_model.specs.Vehicle.{Vehicle, unit_at}

-- How much a count rose; one that stands at its last value rose. A count never falls and has no value above the last.
abbrev pub trouble : ℕ → ℕ → ℕ
trouble old new = if nat_le new old then (if nat_le LAST_COUNT old then 1 else 0) else new - old

abbrev pub IsCalm : ℕ → ℕ → Type 0
IsCalm old new = trouble old new ≡ 0

-- the unit has not departed
pub record AreCalm (old new : Counts) : Type 0 where
  pub refused : (code : ℕ) → IsCalm (old.refused code) (new.refused code)
  pub odd : IsCalm old.odd new.odd
  pub failed : IsCalm old.failed new.failed
  pub muted : IsCalm old.muted new.muted
  pub late : IsCalm old.late new.late
  pub stalled : IsCalm old.stalled new.stalled
  pub busy : IsCalm old.busy new.busy
  pub nacked : (code : ℕ) → IsCalm (old.nacked code) (new.nacked code)

abbrev pub IsUnitCalm : Option ControlUnit → Option ControlUnit → Type 0
IsUnitCalm None None = Unit {0}
IsUnitCalm None (Some v) = ⊥
IsUnitCalm (Some u) None = ⊥
IsUnitCalm (Some u) (Some v) = AreCalm u.counts v.counts

-- neither the gateway nor any unit has departed
pub record IsVehicleCalm (old new : Vehicle) : Type 0 where
  pub denied : (code : ℕ) → IsCalm (old.gateway.denied code) (new.gateway.denied code)
  pub silent : IsCalm old.gateway.silent new.gateway.silent
  pub units : (address : ℕ) → IsUnitCalm (unit_at old.units address) (unit_at new.units address)

-- no call of the shop failed, and the vehicle has not departed
pub record IsUntroubled (old new : History) : Type 0 where
  pub disk : IsCalm old.disk_faults new.disk_faults
  pub link : IsCalm old.link_faults new.link_faults
  pub vehicle : IsVehicleCalm (vehicle_now old) (vehicle_now new)
