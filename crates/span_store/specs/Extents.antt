-- The extents that a byte map is kept in: their starts, ascending, with their bytes. They may touch.
use Rattle.std.specs.Prelude.{◌≡◌, ℕ, ◌+◌, ◌<◌, ◌≤◌, List, [], ◌∷◌, ◌++◌, length, Option, Some, None}
use Rattle.std.specs.Ordering.{nat_cmp}
use Rattle.std.specs.FinMap.{empty, get}
use Rattle.std.specs.declared.ops.Bound.TheVariants.{Included, Excluded, Unbounded}
use Rattle.std.specs.BTreeMap.Range.{entries_between}
use Rattle.span_store.specs.ByteMap.{ByteMap, over, top, Holds}

abbrev pub Extent : Type 0
Extent = ℕ × List ℕ

abbrev pub map_of : List Extent → ByteMap
map_of [] = empty
map_of (e ∷ es) = over (map_of es) e.0 e.1

-- the address after the last byte
abbrev pub end_of : Extent → ℕ
end_of e = e.0 + length e.1

-- each ends at an address or below it
abbrev pub EndBy : ℕ → List Extent → Type 0
EndBy n [] = Unit {0}
EndBy n (e ∷ es) = (end_of e ≤ n) × EndBy n es

-- each starts at an address or above it
abbrev pub StartFrom : ℕ → List Extent → Type 0
StartFrom n [] = Unit {0}
StartFrom n (e ∷ es) = (n ≤ e.0) × StartFrom n es

-- each has bytes, ends at the top at most, and before all that follow
abbrev pub AreExtents : List Extent → Type 0
AreExtents [] = Unit {0}
AreExtents (e ∷ es) = (0 < length e.1) × (end_of e ≤ top) × StartFrom (end_of e) es × AreExtents es

-- those that start below an address, and the others
abbrev pub low : ℕ → List Extent → List Extent
low c es = entries_between nat_cmp Unbounded (Excluded c) es

abbrev pub high : ℕ → List Extent → List Extent
high c es = entries_between nat_cmp (Included c) Unbounded es

-- a list with one more at its end
abbrev pub EndsWith : List Extent → Extent → Type 0
EndsWith es e = (front : List Extent) × (es ≡ front ++ (e ∷ []))

abbrev pub StartsWith : List Extent → Extent → Type 0
StartsWith es e = (rest : List Extent) × (es ≡ e ∷ rest)

-- The first bytes of a map from an address on, as far as they stand in one extent, and where they begin.
abbrev pub IsPiece : ByteMap → ℕ → Option Extent → Type 0
IsPiece m from None = (a : ℕ) → from ≤ a → get m a ≡ None
IsPiece m from (Some e) = (from ≤ e.0) × (0 < length e.1) × (end_of e ≤ top)
    × ((a : ℕ) → from ≤ a → a < e.0 → get m a ≡ None) × Holds m e.0 e.1
