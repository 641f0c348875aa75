-- What a unit may be made of.
use Rattle.std.specs.Prelude.{ℕ, ◌+◌, ◌-◌, ◌%◌, Bool, true, ◌&&◌, ◌==◌, nat_le, List, [], ◌∷◌, length, Option, None, Some}
use Rattle.flash_base.specs.ByteMaps.{MemoryMap, has_each}
use Rattle.flash_base.specs.declared.unit.KeyRule.{KeyRule}
use Rattle.flash_base.specs.declared.unit.KeyRule.TheVariants.{Free, Xor, Digest}
use Rattle.unit_model.specs.declared.unit.Transfer.{Transfer}
use Rattle.unit_model.specs.declared.spec.PatchSpec.{PatchSpec}
use Rattle.unit_model.specs.RegionTests.{LIMIT}

-- default, programming, extended
abbrev pub is_kind : ℕ → Bool
is_kind kind = nat_le 1 kind && nat_le kind 3

abbrev pub is_size : ℕ → ℕ → Bool
is_size most n = nat_le 1 n && nat_le n most

abbrev pub is_seed : List ℕ → Bool
is_seed seed = is_size 64 (length seed)

-- odd, from 1 to 0x7D
abbrev pub is_level : ℕ → Bool
is_level level = level % 2 == 1 && nat_le level 125

abbrev pub is_rule : KeyRule → Bool
is_rule Free = true
is_rule (Xor level mask) = is_level level && is_size 32 (length mask)
is_rule (Digest level size secret) = is_level level && (is_size 32 size && is_size 64 (length secret))

-- a range (address, size) with a byte at least, below the limit of addresses
abbrev pub is_range : ℕ × ℕ → Bool
is_range r = nat_le 1 r.1 && nat_le (r.0 + r.1) LIMIT

abbrev pub all_ranges : List (ℕ × ℕ) → Bool
all_ranges [] = true
all_ranges (r ∷ rs) = is_range r && all_ranges rs

-- the last block was none too long for an answer, and the memory has its bytes, which end at the next address
abbrev pub last_in : MemoryMap → ℕ → Option ℕ → Bool
last_in memory at None = true
last_in memory at (Some n) = nat_le n 65533 && (nat_le n at && has_each (at - n) n memory)

-- the memory has the bytes that are left of a transfer, and those of its last block
abbrev pub transfer_in : MemoryMap → Option Transfer → Bool
transfer_in memory None = true
transfer_in memory (Some t) =
    nat_le (t.at + t.rest) LIMIT && (has_each t.at t.rest memory && last_in memory t.at t.last)

abbrev pub all_inside : MemoryMap → List PatchSpec → Bool
all_inside memory [] = true
all_inside memory (p ∷ ps) = has_each p.at (length p.bytes) memory && all_inside memory ps
