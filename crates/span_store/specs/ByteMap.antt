-- Byte maps: addresses with their bytes, seen by their ascending pairs.
use Rattle.std.specs.Prelude.{ℕ, ◌+◌, ◌<◌, ◌≡◌, ◌^◌, ◌&&◌, List, [], ◌∷◌, length, nat_eq, nat_le, nat_lt, slice_get, Option, Some, None, if◌then◌else◌}
use Rattle.std.specs.Ordering.{nat_cmp}
use Rattle.std.specs.FinMap.{FinMap, get, insert, retain_keys}
use Rattle.span_store.specs.declared.clash.Clash.{Clash}

-- its `entries` are the ascending list of (address, byte)
abbrev pub ByteMap : Type 0
ByteMap = FinMap nat_cmp ℕ

-- every address is below this
abbrev pub top : ℕ
top = 2 ^ 40

-- the map with these bytes from an address on
abbrev pub over : ByteMap → ℕ → List ℕ → ByteMap
over m at [] = m
over m at (b ∷ bs) = insert (over m (at + 1) bs) at b

-- what stands at an address against a byte that is to come there; `rest` is what comes of the addresses after it
abbrev pub clash_at : Option ℕ → ℕ → ℕ → Option Clash → Option Clash
clash_at None at b rest = rest
clash_at (Some old) at b rest = if nat_eq old b then rest else Some (record { at = at; old = old; new = b })

-- the lowest address at which the map has another byte than these from an address on
abbrev pub clash : ByteMap → ℕ → List ℕ → Option Clash
clash m at [] = None
clash m at (b ∷ bs) = clash_at (get m at) at b (clash m (at + 1) bs)

-- the part of the map in a range
abbrev pub part : ByteMap → ℕ → ℕ → ByteMap
part m from size = retain_keys m (λ a. nat_le from a && nat_lt a (from + size))

-- these bytes are the map's from an address on
abbrev pub Holds : ByteMap → ℕ → List ℕ → Type 0
Holds m at bytes = (k : ℕ) → k < length bytes → get m (at + k) ≡ slice_get bytes k
