-- The image that a pick takes of a disk in memory.
use Rattle.std.specs.Prelude.{◌≡◌, ◌⊎◌, ℕ, ◌+◌, ◌<◌, ◌≤◌, List, ◌∷◌, length, slice_index}
use Rattle.disk_model.specs.Disk.{DiskState, IsListed}
use Rattle.disk_model.specs.declared.device.Pick.{Pick}
use Rattle.disk_model.specs.declared.device.Pick.TheVariants.{Old, New, Junk}
use Rattle.mem_disk.specs.declared.crash.Picture.{Picture}
use Rattle.mem_disk.specs.declared.record.Done.{Done}
use Rattle.mem_disk.specs.Replay.{after, spliced, synced_after}

-- the byte in each listed range, the read bytes elsewhere, at the read length
pub record HasJunk (b : ℕ) (disk : DiskState) (image : List ℕ) : Type 0 where
  pub size : length image ≡ length disk.bytes
  pub listed : (i : ℕ) → i < length image → IsListed disk.ranges i → slice_index image i ≡ b
  pub others : (i : ℕ) → ¬ IsListed disk.ranges i → slice_index image i ≡ slice_index disk.bytes i

-- the bytes at the last sync, the read bytes, or junk
abbrev pub IsPicked : Pick → DiskState → List ℕ → List ℕ → Type 0
IsPicked Old disk synced image = image ≡ synced
IsPicked New disk synced image = image ≡ disk.bytes
IsPicked (Junk b) disk synced image = HasJunk b disk image

-- the bytes of the old list at this length, with the byte in the range
pub record IsFilled (old : List ℕ) (size at n byte : ℕ) (v : List ℕ) : Type 0 where
  pub size_is : length v ≡ size
  pub inside : (i : ℕ) → i < size → at ≤ i → i < at + n → slice_index v i ≡ byte
  pub outside : (i : ℕ) → i < length old → i < size → (i < at) ⊎ (at + n ≤ i)
      → slice_index v i ≡ slice_index old i

-- the disk behind a write
abbrev pub wrote_state : DiskState → ℕ → List ℕ → DiskState
wrote_state d at text = record {
  bytes = spliced d.bytes at text;
  ranges = (at, length text) ∷ d.ranges;
  synced = d.synced;
}

abbrev pub missed_state : DiskState → ℕ → ℕ → DiskState
missed_state d at n = record { bytes = d.bytes; ranges = (at, n) ∷ d.ranges; synced = d.synced }

-- the picture has the bytes of the disk and its image
pub record Shows (pick : Pick) (d : DiskState) (synced : List ℕ) (p : Picture) : Type 0 where
  pub bytes : p.bytes.items ≡ d.bytes
  pub image : IsPicked pick d synced p.image.items

-- whatever disk the old picture shows, the new one shows it behind the call
abbrev pub IsBehindWrite : ℕ → List ℕ → Pick → Picture → Picture → Type 0
IsBehindWrite at text pick old new = (d : DiskState) (synced : List ℕ) → Shows pick d synced old
    → Shows pick (wrote_state d at text) synced new

abbrev pub IsBehindMiss : ℕ → ℕ → Pick → Picture → Picture → Type 0
IsBehindMiss at n pick old new = (d : DiskState) (synced : List ℕ) → Shows pick d synced old
    → Shows pick (missed_state d at n) synced new

abbrev pub IsBehind : Done → Pick → Picture → Picture → Type 0
IsBehind done pick old new = (d : DiskState) (synced : List ℕ) → Shows pick d synced old
    → Shows pick (after d done) (synced_after d synced done) new
