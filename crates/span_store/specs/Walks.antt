-- A map that is taken piece by piece, from its lowest bytes on.
use Rattle.std.specs.Prelude.{◌≡◌, ℕ, ◌<◌, ◌≤◌, length, Option, Some, None}
use Rattle.std.specs.FinMap.{empty, get}
use Rattle.span_store.specs.ByteMap.{ByteMap, over, top}
use Rattle.span_store.specs.Extents.{Extent, end_of}

-- The lowest bytes of a map, which stand together, and the map without them. With None the map has no bytes.
abbrev pub TakesFront : ByteMap → Option Extent → ByteMap → Type 0
TakesFront m None n = (m ≡ empty) × (n ≡ empty)
TakesFront m (Some e) n = (0 < length e.1) × (end_of e ≤ top) × (m ≡ over n e.0 e.1)
    × ((a : ℕ) → a < end_of e → get n a ≡ None)
