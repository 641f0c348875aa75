-- Bytes cut into the data of lines.
use Rattle.std.specs.Prelude.{◌≡◌, ℕ, ◌^◌, ◌<◌, ◌≤◌, ◌⊎◌, List, [], ◌∷◌, length, None}
use Rattle.std.specs.FinMap.{get}
use Rattle.span_store.specs.ByteMap.{ByteMap}
use Rattle.span_store.specs.Extents.{Extent, map_of, end_of, AreExtents}

-- no byte stands past the addresses of record texts
abbrev pub IsLow : ByteMap → Type 0
IsLow m = (a : ℕ) → 2 ^ 32 ≤ a → get m a ≡ None

-- A line has 1 to 16 bytes below 2^32, of so many addresses as it has room for, and as many as it can: 16, or all
-- that it has room for, or up to the end of the run.
pub record IsCut (room : ℕ) (m : ByteMap) (e : Extent) : Type 0 where
  pub some : 0 < length e.1
  pub short : length e.1 ≤ 16
  pub below : end_of e ≤ 2 ^ 32
  pub inside : length e.1 ≤ room
  pub full : (length e.1 ≡ 16) ⊎ ((length e.1 ≡ room) ⊎ (get m (end_of e) ≡ None))

-- each line, where `room` says how many addresses there are from one on to where a line must end
abbrev pub AreCut : (ℕ → ℕ) → ByteMap → List Extent → Type 0
AreCut room m [] = Unit {0}
AreCut room m (e ∷ es) = IsCut (room e.0) m e × AreCut room m es

-- the bytes of a map in ascending order, cut into the data of lines
pub record Cuts (room : ℕ → ℕ) (m : ByteMap) (lines : List Extent) : Type 0 where
  pub all : m ≡ map_of lines
  pub ascending : AreExtents lines
  pub cut : AreCut room m lines
