-- Where bytes come among extents.
use Rattle.std.specs.Prelude.{◌≡◌, ℕ, ◌+◌, List, length}
use Rattle.span_store.specs.Extents.{Extent, EndBy, low, EndsWith}
use Rattle.span_store.specs.declared.place.Place.{Place}
use Rattle.span_store.specs.declared.place.Place.TheVariants.{Behind, Apart, Meets}

-- of bytes from one address to another
abbrev pub IsPlace : Place → ℕ → ℕ → List Extent → Type 0
IsPlace (Behind k) at stop es =
    EndBy at (low stop es) × ((old : List ℕ) × EndsWith (low stop es) (k, old) × (k + length old ≡ at))
IsPlace Apart at stop es = EndBy at (low stop es)
IsPlace Meets at stop es = Unit {0}
