-- What a call has done to the disk, whatever it answered.
use Rattle.std.proofs.Common.{◌≡◌, ◌⊎◌, inl, inr, ℕ, List, length, subst, Result, Ok, Err}
use Rattle.disk_model.specs.Disk.{DiskState, MissedWrite, Synced}
use Rattle.disk_model.specs.declared.device.DeviceFault.{DeviceFault}
use Rattle.journal_steps.proofs.Images.{wrote_missed}
use Rattle.shop_model.specs.History.{WroteOrMissed, SyncedOrNot}

pub missed_or_nothing : (at : ℕ) (bytes : List ℕ) (old new : DiskState) (result : Result Unit DeviceFault) → WroteOrMissed at bytes old new result → MissedWrite at (length bytes) old new ⊎ (new ≡ old)
missed_or_nothing at bytes old new (Ok x) did = inl (wrote_missed at bytes old new did.ok)
missed_or_nothing at bytes old new (Err x) did = did.err

pub synced_or_not : (old new : DiskState) (result : Result Unit DeviceFault) → SyncedOrNot old new result → Synced old new ⊎ (new ≡ old)
synced_or_not old new (Ok x) did = inl did.ok
synced_or_not old new (Err x) did = inr did.err

-- a write at a place that is told otherwise
pub wrote_there : (a b : ℕ) (bytes : List ℕ) (old new : DiskState) (result : Result Unit DeviceFault) → a ≡ b → WroteOrMissed a bytes old new result → WroteOrMissed b bytes old new result
wrote_there a b bytes old new result is = subst (λ (k : ℕ). WroteOrMissed k bytes old new result) is
