-- Disk calls that went by.
use Rattle.std.specs.Prelude.{◌≡◌, ℕ, ◌+◌, List, [], ◌∷◌, length}
use Rattle.disk_model.specs.Disk.{DiskState}
use Rattle.unit_model.specs.Vehicle.{Vehicle}
use Rattle.journal_model.specs.Records.{Form, gate_at, body_at}
use Rattle.shop_model.specs.History.{History, Call, WriteAt, Sync, disk_now, vehicle_now}
use Rattle.shop_model.specs.Through.{IsLater, HoldsThrough}

-- time went on, and all but the disk and its count is as it was
pub record IsDiskLater (old new : History) : Type 0 where
  pub is_later : IsLater old new
  pub vehicle : vehicle_now new ≡ vehicle_now old
  pub link_faults : new.link_faults ≡ old.link_faults
  pub link_calls : new.link_calls ≡ old.link_calls
  pub linked : new.linked ≡ old.linked

-- a fact of the disk alone, while the vehicle stays
pub record Stays (v0 : Vehicle) (Q : DiskState → Type 0) (d : DiskState) (v : Vehicle) : Type 0 where
  pub vehicle : v ≡ v0
  pub disk : Q d

-- at each moment between, both included, the disk is so and the vehicle is that of the start
abbrev pub HoldsOnDisk : History → History → (DiskState → Type 0) → Type 0
HoldsOnDisk old new Q = HoldsThrough old new (Stays (vehicle_now old) Q)

-- the disk is that one
abbrev pub IsDisk : DiskState → DiskState → Type 0
IsDisk old d = d ≡ old

-- a part of a run that leaves the disk at each moment
abbrev pub SameDisk : History → History → Type 0
SameDisk old new = HoldsOnDisk old new (IsDisk (disk_now old))

-- these calls led on from moment m, one after another
abbrev pub AreCalls : History → ℕ → List Call → Type 0
AreCalls h m [] = Unit {0}
AreCalls h m (call ∷ calls) = (h.call_at m ≡ call) × AreCalls h (m + 1) calls

-- these calls were made, and no others
pub record MadeCalls (old new : History) (calls : List Call) : Type 0 where
  pub moments : new.moment ≡ old.moment + length calls
  pub in_order : AreCalls new old.moment calls

-- the calls that record entries in a run of slots of a journal: bodies, sync, gates, sync
abbrev pub append_calls : Form → ℕ → List ℕ → List ℕ → List Call
append_calls F slot bodies gates =
    WriteAt (body_at F slot) bodies ∷ Sync ∷ WriteAt (gate_at F slot) gates ∷ Sync ∷ []
