-- What a shop's disk and vehicle were at each moment so far, and what one call adds to it.
use Rattle.std.specs.Prelude.{◌≡◌, ◌⊎◌, ◌+◌, ◌-◌, ◌≤◌, ◌<◌, ◌^◌, min, Bool, ℕ, List, length, take, Result, Ok, Err, IsErr, OnOk, OnErr}
use Rattle.flash_base.specs.Counts.{Rises}
use Rattle.disk_model.specs.Disk.{DiskState, Wrote, MissedWrite, Synced}
use Rattle.disk_model.specs.declared.device.DeviceFault.{DeviceFault}
use Rattle.unit_model.specs.declared.reply.Got.{Got}
use Rattle.unit_model.specs.declared.reply.Got.TheVariants.{Quiet, Bytes}
use Rattle.unit_model.specs.Vehicle.{Vehicle, redialed}
use Rattle.unit_model.specs.Feed.{Feeds, FeedsPart}
use Rattle.unit_model.specs.Poll.{Ticks, Carries, IsPlain, Misses}

-- a call, with what it was given
pub data Call : Type 0 where
  Len : Call
  ReadAt : ℕ → ℕ → Call
  WriteAt : ℕ → List ℕ → Call
  Sync : Call
  Send : List ℕ → Call
  Receive : Call
  Redial : Call

-- call_at m is the call that led from moment m to the next one
pub record History : Type 0 where
  pub moment : ℕ
  pub disk_at : ℕ → DiskState
  pub vehicle_at : ℕ → Vehicle
  pub call_at : ℕ → Call
  pub disk_faults : ℕ
  pub link_faults : ℕ
  pub link_calls : ℕ
  pub linked : Bool

abbrev pub disk_now : History → DiskState
disk_now h = h.disk_at h.moment

abbrev pub vehicle_now : History → Vehicle
vehicle_now h = h.vehicle_at h.moment

-- at the last moment every call fails
abbrev pub LAST : ℕ
LAST = 2 ^ 63

-- One moment more, except at the last one. What there was does not change.
pub record Passes {T : Type 0} (call : Call) (old new : History)
    (result : Result T DeviceFault) : Type 0 where
  pub moment : new.moment ≡ min (old.moment + 1) LAST
  pub last : old.moment ≡ LAST → IsErr result
  pub disk_past : (m : ℕ) → m ≤ old.moment → new.disk_at m ≡ old.disk_at m
  pub vehicle_past : (m : ℕ) → m ≤ old.moment → new.vehicle_at m ≡ old.vehicle_at m
  pub calls_past : (m : ℕ) → m < old.moment → new.call_at m ≡ old.call_at m
  pub call_is : old.moment < LAST → new.call_at old.moment ≡ call

-- a disk call: link and vehicle stay, and a failure has a cause
pub record DiskCall {T : Type 0} (call : Call) (old new : History)
    (result : Result T DeviceFault) : Type 0 where
  pub passes : Passes call old new result
  pub vehicle : vehicle_now new ≡ vehicle_now old
  pub link_faults : new.link_faults ≡ old.link_faults
  pub link_calls : new.link_calls ≡ old.link_calls
  pub linked : new.linked ≡ old.linked
  pub never_falls : old.disk_faults ≤ new.disk_faults
  pub fault : IsErr result → Rises old.disk_faults new.disk_faults

-- a link call: the disk stays, and a failure has a cause
pub record LinkCall {T : Type 0} (call : Call) (old new : History)
    (result : Result T DeviceFault) : Type 0 where
  pub passes : Passes call old new result
  pub disk : disk_now new ≡ disk_now old
  pub disk_faults : new.disk_faults ≡ old.disk_faults
  pub link_calls : new.link_calls ≡ old.link_calls + (new.moment - old.moment)
  pub never_falls : old.link_faults ≤ new.link_faults
  pub fault : IsErr result → Rises old.link_faults new.link_faults

-- A write that failed has put anything in its range, or, where there was no memory to list the range, did nothing.
pub record WroteOrMissed (at : ℕ) (bytes : List ℕ) (old new : DiskState)
    (result : Result Unit DeviceFault) : Type 0 where
  pub ok : OnOk result (Wrote at bytes old new)
  pub err : OnErr result (MissedWrite at (length bytes) old new ⊎ (new ≡ old))

pub record SyncedOrNot (old new : DiskState) (result : Result Unit DeviceFault) : Type 0 where
  pub ok : OnOk result (Synced old new)
  pub err : OnErr result (new ≡ old)

-- A send that failed has fed a prefix, and the connection may be broken.
pub record Sent (bytes : List ℕ) (old new : Vehicle) (result : Result Unit DeviceFault) : Type 0 where
  pub ok : OnOk result (Feeds bytes old new)
  pub err : OnErr result (FeedsPart bytes old new)

pub record Redialed (old new : Vehicle) (result : Result Unit DeviceFault) : Type 0 where
  pub ok : OnOk result (new ≡ redialed old)
  pub err : OnErr result ((new ≡ old) ⊎ (new ≡ redialed old))

-- 1 byte to as many as there was room for
abbrev pub IsPiece : ℕ → Got → Type 0
IsPiece room Quiet = Unit {0}
IsPiece room (Bytes n) = (1 ≤ n) × (n ≤ room)

-- A receive into `out`; Clean says that it was not garbled, so that the piece is the next due bytes.
abbrev pub Received : List ℕ → Type 0 → Vehicle → Vehicle → Result Got DeviceFault → Type 0
Received out Clean old new (Ok Quiet) = Ticks old new
Received out Clean old new (Ok (Bytes n)) =
    Carries (take n out) old new × (Clean → IsPlain (take n out) old new)
Received out Clean old new (Err e) = Misses old new
