-- What a shop in memory tells, and when its calls fail.
use Rattle.std.specs.Prelude.{◌≡◌, ◌⊎◌, ◌↔◌, ℕ, ◌+◌, ◌≤◌, ◌<◌, false, IsTrue, List, take, Option, Some, None, Result, IsErr}
use Rattle.disk_model.specs.declared.device.DeviceFault.{DeviceFault}
use Rattle.disk_model.specs.Disk.{IsCrashImage}
use Rattle.disk_model.specs.declared.device.Pick.{Pick}
use Rattle.mem_disk.specs.Crashed.{IsPicked}
use Rattle.mem_disk.specs.Replay.{start as start_disk, synced_bytes}
use Rattle.unit_model.specs.declared.reply.Got.{Got}
use Rattle.shop_model.specs.History.{History, LAST, disk_now, vehicle_now}
use Rattle.mem_disk.specs.Disks.{moment_of as disk_moment, disk_calls, history_of as disk_history}
use Rattle.vehicle_world.specs.Saving.{anew}
use Rattle.vehicle_world.specs.Worlds.{Simulated, world_of}
use Rattle.bench_shop.specs.Benches.{world_at, Brings}
use Rattle.bench_shop.specs.Faults.{is_listed, no_faults, piece_for}
use Rattle.mem_disk.specs.declared.disk.MemDisk.{MemDisk}
use Rattle.bench_shop.specs.declared.bench.Bench.{Bench}
use Rattle.bench_shop.specs.declared.faults.Faults.{Faults}
use Rattle.bench_shop.specs.declared.shop.Made.{Made}
use Rattle.bench_shop.specs.declared.shop.MemoryShop.{MemoryShop}

-- of the disk what it tells itself, of the vehicle what the record says
abbrev pub history : MemDisk → Bench → History
history d b = record (disk_history d) { vehicle_at = λ m. (world_at b m).vehicle }

abbrev pub history_of : MemoryShop → History
history_of s = history s.disk s.bench

abbrev pub moment_of : MemoryShop → ℕ
moment_of s = disk_moment s.disk

-- how many calls failed because the shop found no memory
abbrev pub starved_of : MemoryShop → ℕ
starved_of s = s.disk.starved + s.bench.hungry

-- the calls so far, of each kind
abbrev pub made_of : MemoryShop → Made
made_of s = record {
  disk = disk_calls s.disk;
  link = s.disk.link_calls;
  receives = s.receives;
  moments = moment_of s;
}

-- nothing was called yet, and calls fail by this plan
pub record IsUncalled (faults : Faults) (s : MemoryShop) : Type 0 where
  pub plan : s.plan ≡ faults
  pub moment : moment_of s ≡ 0
  pub disk_faults : s.disk.disk_faults ≡ 0
  pub link_faults : s.disk.link_faults ≡ 0
  pub link_calls : s.disk.link_calls ≡ 0
  pub receives : s.receives ≡ 0
  pub linked : s.disk.linked ≡ false
  pub starved : starved_of s ≡ 0

-- a new shop over a file with these bytes
pub record IsNew (image : List ℕ) (start : Simulated) (faults : Faults) (s : MemoryShop) : Type 0 where
  pub uncalled : IsUncalled faults s
  pub disk : (disk_now (history_of s)).bytes ≡ image
  pub vehicle : vehicle_now (history_of s) ≡ start.vehicle
  pub world : world_of s.bench.world ≡ start

-- the plan stays, and the count of calls that found no memory never falls
pub record KeepsPlan (old new : MemoryShop) : Type 0 where
  pub plan : new.plan ≡ old.plan
  pub starved : starved_of old ≤ starved_of new

-- a disk call leaves the vehicle and its record
pub record KeepsBench (old new : MemoryShop) : Type 0 where
  pub plan : KeepsPlan old new
  pub bench : new.bench ≡ old.bench

-- before the last moment a disk call fails just where it is listed or no memory was found
abbrev pub DiskFails : {T : Type 0} → MemoryShop → MemoryShop → Result T DeviceFault → Type 0
DiskFails old new result = moment_of old < LAST
    → (IsErr result ↔ (IsTrue (is_listed old.plan.disk (disk_calls old.disk)) ⊎ (starved_of old < starved_of new)))

-- and so does a link call
abbrev pub LinkFails : {T : Type 0} → MemoryShop → MemoryShop → Result T DeviceFault → Type 0
LinkFails old new result = moment_of old < LAST
    → (IsErr result ↔ (IsTrue (is_listed old.plan.link old.disk.link_calls) ⊎ (starved_of old < starved_of new)))

-- a receive that did not fail is garbled just where a piece is listed for it; the fault is counted there alone
abbrev pub GarblesIn : Option (List ℕ) → List ℕ → MemDisk → MemDisk → Got → Type 0
GarblesIn None out old new got = new.link_faults ≡ old.link_faults
GarblesIn (Some piece) out old new got = Brings (Some piece) out got

abbrev pub Garbles : Option (List ℕ) → List ℕ → MemoryShop → MemoryShop → Got → Type 0
Garbles piece out old new got = GarblesIn piece out old.disk new.disk got

abbrev pub piece_now : MemoryShop → Option (List ℕ)
piece_now s = piece_for s.plan.garbled s.receives

-- ------ a stop
-- the bytes at the last sync before a moment
abbrev pub synced_at : MemoryShop → ℕ → List ℕ
synced_at s m = synced_bytes (start_disk s.disk.first.items) s.disk.first.items (take m s.disk.calls.items)

-- what is left: an image that a crash at the moment leaves, namely that one, and the vehicle on a new connection
pub record IsCrashed (s : MemoryShop) (m : ℕ) (pick : Pick) (crashed : MemoryShop) : Type 0 where
  pub image : IsCrashImage ((history_of s).disk_at m) (disk_now (history_of crashed)).bytes
  pub picked : IsPicked pick ((history_of s).disk_at m) (synced_at s m) (disk_now (history_of crashed)).bytes
  pub vehicle : ∥ vehicle_now (history_of crashed) ≡ anew ((history_of s).vehicle_at m) ∥₁
  pub uncalled : IsUncalled no_faults crashed
