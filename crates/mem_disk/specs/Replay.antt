-- What a disk is behind the calls of a record.
use Rattle.std.specs.Prelude.{ℕ, ◌+◌, Bool, true, ◌&&◌, nat_le, List, [], ◌∷◌, ◌++◌, length, take, drop}
use Rattle.disk_model.specs.Disk.{DiskState}
use Rattle.mem_disk.specs.declared.record.Done.{Done}
use Rattle.mem_disk.specs.declared.record.Done.TheVariants.{Kept, Wrote, Missed, Synced}

-- a disk with these bytes, which a crash leaves
abbrev pub start : List ℕ → DiskState
start bytes = record { bytes = bytes; ranges = []; synced = length bytes }

abbrev pub spliced : List ℕ → ℕ → List ℕ → List ℕ
spliced old at bytes = take at old ++ bytes ++ drop (at + length bytes) old

abbrev pub after : DiskState → Done → DiskState
after d Kept = d
after d (Wrote at v) = record {
  bytes = spliced d.bytes at v.items;
  ranges = (at, length v.items) ∷ d.ranges;
  synced = d.synced;
}
after d (Missed at n) = record { bytes = d.bytes; ranges = (at, n) ∷ d.ranges; synced = d.synced }
after d Synced = record { bytes = d.bytes; ranges = []; synced = length d.bytes }

abbrev pub replay : DiskState → List Done → DiskState
replay d [] = d
replay d (done ∷ more) = replay (after d done) more

-- the bytes at the last sync, after one call more, and after all
abbrev pub synced_after : DiskState → List ℕ → Done → List ℕ
synced_after d old Kept = old
synced_after d old (Wrote at v) = old
synced_after d old (Missed at n) = old
synced_after d old Synced = d.bytes

abbrev pub synced_bytes : DiskState → List ℕ → List Done → List ℕ
synced_bytes d old [] = old
synced_bytes d old (done ∷ more) = synced_bytes (after d done) (synced_after d old done) more

-- a write begins within the bytes, or right behind them
abbrev pub is_within : ℕ → Done → Bool
is_within size Kept = true
is_within size (Wrote at v) = nat_le at size
is_within size (Missed at n) = true
is_within size Synced = true

abbrev pub are_within : DiskState → List Done → Bool
are_within d [] = true
are_within d (done ∷ more) = is_within (length d.bytes) done && are_within (after d done) more

-- what leaves the bytes
abbrev pub IsNoWrite : Done → Type 0
IsNoWrite Kept = Unit {0}
IsNoWrite (Wrote at v) = ⊥
IsNoWrite (Missed at n) = Unit {0}
IsNoWrite Synced = Unit {0}
