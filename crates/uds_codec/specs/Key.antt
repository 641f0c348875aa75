-- The key that a unit wants for its seed.
use Rattle.std.specs.Prelude.{ℕ, ◌+◌, ◌%◌, Bool, true, ◌==◌, ◌&&◌, List, [], ◌∷◌, ◌++◌, length, take, slice_index, bit_xor, Option, Some, None}
use Rattle.sha2.specs.Sha256.{sha256}
use Rattle.flash_base.specs.declared.unit.KeyRule.{KeyRule}
use Rattle.flash_base.specs.declared.unit.KeyRule.TheVariants.{Free, Xor, Digest}

-- the seed's bytes from place k on, each with the mask's byte of its place
abbrev pub xor_from : List ℕ → ℕ → List ℕ → List ℕ
xor_from mask k [] = []
xor_from mask k (x ∷ xs) = bit_xor x (slice_index mask (k % length mask)) ∷ xor_from mask (k + 1) xs

abbrev pub key_of : KeyRule → List ℕ → List ℕ
key_of Free seed = []
key_of (Xor level mask) seed = xor_from mask 0 seed
key_of (Digest level size secret) seed = take size (sha256 (secret ++ seed))

-- the level that unlocks the unit
abbrev pub level_of : KeyRule → Option ℕ
level_of Free = None
level_of (Xor level mask) = Some level
level_of (Digest level size secret) = Some level

abbrev pub all_zero : List ℕ → Bool
all_zero [] = true
all_zero (x ∷ xs) = x == 0 && all_zero xs
