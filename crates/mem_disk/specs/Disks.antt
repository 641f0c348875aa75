-- What a disk in memory tells, and what one call adds to its record.
use Rattle.std.specs.Prelude.{◌≡◌, ◌⊎◌, ◌↔◌, ℕ, ◌+◌, ◌≤◌, ◌<◌, ◌^◌, ◌-◌, min, Vec, false, List, [], ◌∷◌, ◌++◌, length, take, None, Bool, ◌==◌, IsTrue, Result, IsErr, OnErr}
use Rattle.std.specs.Bool.{OnTrue, OnFalse}
use Rattle.std.specs.List.{list_any}
use Rattle.std.specs.declared.alloc.Global.{Global}
use Rattle.disk_model.specs.declared.device.DeviceFault.{DeviceFault}
use Rattle.disk_model.specs.Disk.{MissedWrite}
use Rattle.unit_model.specs.Vehicle.{Vehicle}
use Rattle.shop_model.specs.History.{History, Call, LAST, disk_now}
use Rattle.mem_disk.specs.declared.record.Done.{Done}
use Rattle.mem_disk.specs.declared.record.Done.TheVariants.{Wrote}
use Rattle.mem_disk.specs.declared.disk.MemDisk.{MemDisk}
use Rattle.mem_disk.specs.Made.{call_in}
use Rattle.mem_disk.specs.Replay.{start, replay}
use Rattle.flash_base.specs.Counts.{one_more}

-- nothing is behind the link
abbrev pub no_vehicle : Vehicle
no_vehicle = record {
  gateway = record {
    entity = 0;
    active = None;
    deaf = false;
    unfinished = [];
    ready = [];
    later = [];
    held = [];
    carried = [];
    tick = 0;
    alive = [];
    denied = λ code. 0;
    silent = 0;
  };
  units = [];
}

-- the number of calls so far
abbrev pub moment_of : MemDisk → ℕ
moment_of s = length s.calls.items + s.idle

abbrev pub history_of : MemDisk → History
history_of s = record {
  moment = moment_of s;
  disk_at = λ m. replay (start s.first.items) (take m s.calls.items);
  vehicle_at = λ m. no_vehicle;
  call_at = λ m. call_in s.made m;
  disk_faults = s.disk_faults;
  link_faults = s.link_faults;
  link_calls = s.link_calls;
  linked = s.linked;
}

-- a disk to which nothing was done
pub record IsNew (image failing : List ℕ) (s : MemDisk) : Type 0 where
  pub first : s.first.items ≡ image
  pub failing_is : s.failing.items ≡ failing
  pub moment : moment_of s ≡ 0
  pub none_starved : s.starved ≡ 0
  pub disk_faults : s.disk_faults ≡ 0
  pub link_faults : s.link_faults ≡ 0
  pub linked_not : s.linked ≡ false

-- the number of disk calls so far
abbrev pub disk_calls : MemDisk → ℕ
disk_calls s = moment_of s - s.link_calls

-- the number of the next disk call, from 0, is listed to fail
abbrev pub is_listed : MemDisk → Bool
is_listed s = list_any (λ n. n == disk_calls s) s.failing.items

-- before the last moment a disk call fails exactly where it is listed or no memory was found
abbrev pub FailsExactly : {T : Type 0} → MemDisk → MemDisk → Result T DeviceFault → Type 0
FailsExactly old new result =
    moment_of old < LAST → (IsErr result ↔ (IsTrue (is_listed old) ⊎ (old.starved < new.starved)))

-- one moment more, to which this call led
pub record Passed (call : Call) (old new : MemDisk) : Type 0 where
  pub room : moment_of old < LAST
  pub moment : moment_of new ≡ moment_of old + 1
  pub calls_past : (m : ℕ) → m < moment_of old → call_in new.made m ≡ call_in old.made m
  pub call_is : call_in new.made (moment_of old) ≡ call
  pub first : new.first.items ≡ old.first.items
  pub failing : new.failing.items ≡ old.failing.items
  pub disk_faults : new.disk_faults ≡ old.disk_faults
  pub link_faults : new.link_faults ≡ old.link_faults
  pub link_calls : new.link_calls ≡ old.link_calls
  pub linked : new.linked ≡ old.linked

-- what it did is the last of the record
pub record Recorded (call : Call) (done : Done) (old new : MemDisk) : Type 0 where
  pub passed : Passed call old new
  pub whole : old.idle ≡ 0
  pub calls : new.calls.items ≡ old.calls.items ++ done ∷ []
  pub starves : new.starved ≡ old.starved

-- it found no memory, and did nothing
pub record Starved (call : Call) (old new : MemDisk) : Type 0 where
  pub passed : Passed call old new
  pub calls : new.calls.items ≡ old.calls.items
  pub starves : new.starved ≡ old.starved + 1

abbrev pub WroteSome : Call → ℕ → List ℕ → MemDisk → MemDisk → Type 0
WroteSome call at bytes old new = (v : Vec ℕ Global) × (v.items ≡ bytes) × Recorded call (Wrote at v) old new

-- all but the counts of faults stays
pub record SameRecord (old new : MemDisk) : Type 0 where
  pub first : new.first.items ≡ old.first.items
  pub failing : new.failing.items ≡ old.failing.items
  pub calls : new.calls.items ≡ old.calls.items
  pub idle : new.idle ≡ old.idle
  pub made : new.made ≡ old.made
  pub starves : new.starved ≡ old.starved
  pub link_calls : new.link_calls ≡ old.link_calls
  pub linked : new.linked ≡ old.linked

pub record DiskFaulted (old new : MemDisk) : Type 0 where
  pub same : SameRecord old new
  pub disk_faults : new.disk_faults ≡ one_more old.disk_faults
  pub link_faults : new.link_faults ≡ old.link_faults

pub record LinkFaulted (old new : MemDisk) : Type 0 where
  pub same : SameRecord old new
  pub disk_faults : new.disk_faults ≡ old.disk_faults
  pub link_faults : new.link_faults ≡ one_more old.link_faults

-- before the last moment a write that failed, and not for want of memory, has its range listed
abbrev pub ListsMiss : ℕ → ℕ → MemDisk → MemDisk → Result Unit DeviceFault → Type 0
ListsMiss at n old new result = moment_of old < LAST → new.starved ≡ old.starved
    → OnErr result (MissedWrite at n (disk_now (history_of old)) (disk_now (history_of new)))

-- a link call, counted
pub record LinkCounted (mid counted : MemDisk) : Type 0 where
  pub first : counted.first.items ≡ mid.first.items
  pub calls : counted.calls.items ≡ mid.calls.items
  pub idle : counted.idle ≡ mid.idle
  pub made : counted.made ≡ mid.made
  pub disk_faults : counted.disk_faults ≡ mid.disk_faults
  pub link_faults : counted.link_faults ≡ mid.link_faults
  pub link_calls : counted.link_calls ≡ mid.link_calls + 1

-- the calls that are listed to fail stay, and the count of calls that found no memory rises by these calls alone
pub record KeepsPlan (old new : MemDisk) : Type 0 where
  pub failing : new.failing.items ≡ old.failing.items
  pub starves : old.starved ≤ new.starved
  pub at_most : new.starved + moment_of old ≤ old.starved + moment_of new

-- ------ link calls of whoever has a vehicle beside this disk
-- one moment more, at which the disk stays; it was recorded, or no memory was found
pub record LinkPassed (call : Call) (went : Bool) (old new : MemDisk) : Type 0 where
  pub moment : moment_of new ≡ moment_of old + 1
  pub disk_past : (m : ℕ) → m ≤ moment_of old → (history_of new).disk_at m ≡ (history_of old).disk_at m
  pub disk : disk_now (history_of new) ≡ disk_now (history_of old)
  pub calls_past : (m : ℕ) → m < moment_of old → call_in new.made m ≡ call_in old.made m
  pub call_is : call_in new.made (moment_of old) ≡ call
  pub failing : new.failing.items ≡ old.failing.items
  pub disk_faults : new.disk_faults ≡ old.disk_faults
  pub link_faults : new.link_faults ≡ old.link_faults
  pub link_calls : new.link_calls ≡ old.link_calls + 1
  pub linked : new.linked ≡ old.linked
  pub recorded : OnTrue went (new.starved ≡ old.starved)
  pub hungry : OnFalse went (new.starved ≡ old.starved + 1)

-- what it answers is known
pub record LinkEnded (missed connected : Bool) (old new : MemDisk) : Type 0 where
  pub same : history_of new ≡ record (history_of old) { link_faults = new.link_faults; linked = new.linked }
  pub failing : new.failing.items ≡ old.failing.items
  pub starves : new.starved ≡ old.starved
  pub disk_calls : disk_calls new ≡ disk_calls old
  pub faulty : OnTrue missed (new.link_faults ≡ one_more old.link_faults)
  pub fine : OnFalse missed (new.link_faults ≡ old.link_faults)
  pub link : new.linked ≡ connected
