-- What a shop over real files tells: nothing of its disk, all of its vehicle.
use Rattle.std.proofs.Common.{refl, arith}
use Rattle.disk_model.specs.Disk.{IsCrashImage}
use Rattle.std.specs.Prelude.{◌≡◌, ◌↔◌, ℕ, ◌+◌, ◌<◌, ◌≤◌, false, Result, IsErr}
use Rattle.flash_base.specs.Counts.{one_more}
use Rattle.unit_model.specs.Vehicle.{Vehicle}
use Rattle.shop_model.specs.History.{History, Call, LAST}
use Rattle.shop_model.specs.Stepping.{StepsUnits}
use Rattle.disk_model.specs.declared.device.DeviceFault.{DeviceFault}
use Rattle.vehicle_world.specs.declared.world.World.{World}
use Rattle.folder_shop.specs.declared.shop.BenchShop.{BenchShop}
use Rattle.folder_shop.specs.declared.told.Told.{Told}
use Rattle.folder_shop.specs.Moments.{call_in, vehicle_in, vehicle_of, no_disk, AreSteps}

-- what is told, where this is the vehicle now
abbrev pub history : Told → Vehicle → History
history t now = record {
  moment = t.moments;
  disk_at = λ m. no_disk;
  vehicle_at = λ m. vehicle_in t.past now m;
  call_at = λ m. call_in t.past m;
  disk_faults = t.disk_faults;
  link_faults = t.link_faults;
  link_calls = t.link_calls;
  linked = t.linked;
}

-- nothing was called yet
pub record IsNew (t : Told) : Type 0 where
  pub moments : t.moments ≡ 0
  pub disk_faults : t.disk_faults ≡ 0
  pub link_faults : t.link_faults ≡ 0
  pub link_calls : t.link_calls ≡ 0
  pub starved : t.starved ≡ 0
  pub linked : t.linked ≡ false

-- one moment more, to which this call led from vehicle w
pub record Passed (call : Call) (w : Vehicle) (old new : Told) : Type 0 where
  pub moments : new.moments ≡ old.moments + 1
  pub vehicles : (v : Vehicle) (m : ℕ) → m ≤ old.moments → vehicle_in new.past v m ≡ vehicle_in old.past w m
  pub calls : (m : ℕ) → m < old.moments → call_in new.past m ≡ call_in old.past m
  pub call_is : call_in new.past old.moments ≡ call
  pub steps : (v : Vehicle) → ∥ StepsUnits w v ∥₁ → AreSteps old.past w → AreSteps new.past v
  pub disk_faults : new.disk_faults ≡ old.disk_faults
  pub link_faults : new.link_faults ≡ old.link_faults
  pub link_calls : new.link_calls ≡ old.link_calls
  pub starved : new.starved ≡ old.starved
  pub linked : new.linked ≡ old.linked

-- a disk call that failed was counted
pub record MissedDisk (old new : Told) : Type 0 where
  pub past : new.past ≡ old.past
  pub moments : new.moments ≡ old.moments
  pub disk_faults : new.disk_faults ≡ one_more old.disk_faults
  pub link_faults : new.link_faults ≡ old.link_faults
  pub link_calls : new.link_calls ≡ old.link_calls
  pub linked : new.linked ≡ old.linked

-- ------ the shop
-- what a shop tells: its vehicle is the present one
abbrev pub history_of : {R : Type 0} → BenchShop R → History
history_of s = history s.told (vehicle_of s.world)

-- the vehicle stays, and nothing was called
pub record SameVehicle (old_world : World) (old_told : Told) (new_world : World) (new_told : Told) : Type 0 where
  pub world : new_world ≡ old_world
  pub told : new_told ≡ old_told

-- a link call fails just where it found no memory
abbrev pub FailsHungry : {T : Type 0} → Told → Told → Result T DeviceFault → Type 0
FailsHungry old new result = old.moments < LAST → (IsErr result ↔ (old.starved < new.starved))

-- of a disk of which nothing is told no byte is left
pub nothing_left : IsCrashImage no_disk no_disk.bytes
nothing_left = record { no_shorter = omega arith; no_longer = omega arith; same = λ i lt out. refl }
