-- Byte maps: addresses, each once, with their bytes.
use Rattle.std.specs.Prelude.{◌≡◌, ◌⊎◌, ℕ, zero, suc, ◌+◌, ◌-◌, ◌<◌, ◌≤◌, Bool, true, ◌&&◌, ◌==◌, nat_lt, nat_le, List, [], ◌∷◌, length, slice_index, Option, Some, None, is_some, if◌then◌else◌}

abbrev pub MemoryMap : Type 0
MemoryMap = List (ℕ × ℕ)

-- the byte at an address
abbrev pub byte_at : MemoryMap → ℕ → Option ℕ
byte_at [] a = None
byte_at (p ∷ ps) a = if p.0 == a then Some p.1 else byte_at ps a

-- the address lies in the range
abbrev pub is_in : ℕ → ℕ → ℕ → Bool
is_in at size a = nat_le at a && nat_lt a (at + size)

-- the map with one byte over a range, where it has the addresses
abbrev pub fill : ℕ → ℕ → ℕ → MemoryMap → MemoryMap
fill at size byte [] = []
fill at size byte (p ∷ ps) = (p.0, if is_in at size p.0 then byte else p.1) ∷ fill at size byte ps

-- the map with these bytes from an address on, where it has the addresses
abbrev pub put : ℕ → List ℕ → MemoryMap → MemoryMap
put at xs [] = []
put at xs (p ∷ ps) = (p.0, if is_in at (length xs) p.0 then slice_index xs (p.0 - at) else p.1) ∷ put at xs ps

-- the map has each address of a range
abbrev pub has_each : ℕ → ℕ → MemoryMap → Bool
has_each at zero memory = true
has_each at (suc n) memory = is_some (byte_at memory at) && has_each (at + 1) n memory

abbrev pub byte_or_0 : Option ℕ → ℕ
byte_or_0 None = 0
byte_or_0 (Some x) = x

-- the bytes of a range, 0 where there is none
abbrev pub bytes_of : ℕ → ℕ → MemoryMap → List ℕ
bytes_of at zero memory = []
bytes_of at (suc n) memory = byte_or_0 (byte_at memory at) ∷ bytes_of (at + 1) n memory

-- two maps have the same byte, or none, at each address outside a range
abbrev pub SameOutside : ℕ → ℕ → MemoryMap → MemoryMap → Type 0
SameOutside at size old new = (a : ℕ) → (a < at) ⊎ (at + size ≤ a) → byte_at new a ≡ byte_at old a
