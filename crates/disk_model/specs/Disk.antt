-- A disk at one moment, the images that a crash may leave of it, and what each call does to it.
use Rattle.std.specs.Prelude.{◌≡◌, ◌⊎◌, ℕ, ◌+◌, ◌<◌, ◌≤◌, max, List, [], ◌∷◌, length, slice_index}

-- The bytes that a read gives, the ranges (place, length) written since the last sync that succeeded, and the length at that sync.
pub record DiskState : Type 0 where
  pub bytes : List ℕ
  pub ranges : List (ℕ × ℕ)
  pub synced : ℕ

-- the place lies in one of the ranges
abbrev pub IsListed : List (ℕ × ℕ) → ℕ → Type 0
IsListed [] i = ⊥
IsListed (r ∷ rs) i = ((r.0 ≤ i) × (i < r.0 + r.1)) ⊎ IsListed rs i

-- A crash may leave this image: its length lies between the synced length and the read length, and it
-- has the read bytes outside the listed ranges and below the synced length. Elsewhere it has any bytes.
pub record IsCrashImage (disk : DiskState) (image : List ℕ) : Type 0 where
  pub no_shorter : disk.synced ≤ length image
  pub no_longer : length image ≤ length disk.bytes
  pub same : (i : ℕ) → i < disk.synced → ¬ IsListed disk.ranges i
      → slice_index image i ≡ slice_index disk.bytes i

-- a crash leaves just what a read gives
pub record IsSettled (disk : DiskState) : Type 0 where
  pub ranges : disk.ranges ≡ []
  pub synced : disk.synced ≡ length disk.bytes

-- the same bytes at each place outside the range
abbrev pub SameOutside : ℕ → ℕ → List ℕ → List ℕ → Type 0
SameOutside at n old new = (i : ℕ) → (i < at) ⊎ (at + n ≤ i) → slice_index new i ≡ slice_index old i

-- A write that succeeded. It may lengthen the file, and its range is listed.
pub record Wrote (at : ℕ) (written : List ℕ) (old new : DiskState) : Type 0 where
  pub inside : (k : ℕ) → k < length written → slice_index new.bytes (at + k) ≡ slice_index written k
  pub outside : SameOutside at (length written) old.bytes new.bytes
  pub size : length new.bytes ≡ max (length old.bytes) (at + length written)
  pub ranges : new.ranges ≡ (at, length written) ∷ old.ranges
  pub synced : new.synced ≡ old.synced

-- A write that failed: a read of its range may give anything, and the length lies between the old one and that of a success.
pub record MissedWrite (at n : ℕ) (old new : DiskState) : Type 0 where
  pub outside : SameOutside at n old.bytes new.bytes
  pub no_shorter : length old.bytes ≤ length new.bytes
  pub no_longer : length new.bytes ≤ max (length old.bytes) (at + n)
  pub ranges : new.ranges ≡ (at, n) ∷ old.ranges
  pub synced : new.synced ≡ old.synced

-- a sync that succeeded
pub record Synced (old new : DiskState) : Type 0 where
  pub bytes : new.bytes ≡ old.bytes
  pub ranges : new.ranges ≡ []
  pub synced : new.synced ≡ length old.bytes
