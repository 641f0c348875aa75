-- Digits in the lanes of vectors.
use Rattle.std.specs.Prelude.{◌≡◌, ℕ, ◌+◌, ◌*◌, ◌%◌, ◌<◌, ◌≤◌, List, ◌++◌, length, sum, map, take, bit_and, nat_lt, slice_index, Option, Some, None, if◌then◌else◌}
use Rattle.std.specs.List.{range_with_len}
use Rattle.rec_text.specs.Digits.{digit_of, byte_of}

abbrev pub smaller : ℕ → ℕ → ℕ
smaller a b = if nat_lt a b then a else b

abbrev pub larger : ℕ → ℕ → ℕ
larger a b = if nat_lt a b then b else a

-- a character as a hexadecimal digit, or 16 or more where it is none, as lanes of 8 bits compute it
abbrev pub value : ℕ → ℕ
value c = smaller ((larger ((c + 198) % 256) 6 + 10) % 256)
    ((smaller ((bit_and c 223 + 191) % 256) 245 + 10) % 256)

-- neighbours of 32 as the digits of one byte
abbrev pub coupled : List ℕ → List ℕ
coupled v = map (λ k. (slice_index v (2 * k) * 16 % 256 + slice_index v (2 * k + 1)) % 256)
    (range_with_len 0 16)

-- the characters from a place on, two and two, are the digits of these bytes
abbrev pub Spell : List ℕ → ℕ → List ℕ → Type 0
Spell digits at bs =
    (k : ℕ) → k < length bs → Some (slice_index bs k) ≡ byte_of (digit_of (slice_index digits (at + 2 * k)))
    (digit_of (slice_index digits (at + (2 * k + 1))))

-- 16 bytes more of those that digits spell, put to a place, and their sum
pub record IsBlock (digits : List ℕ) (k : ℕ) (old new : List ℕ) (total : ℕ) : Type 0 where
  pub bytes : List ℕ
  pub size : length bytes ≡ 16
  pub spell : Spell digits (2 * k) bytes
  pub put : take (k + 16) new ≡ take k old ++ bytes
  pub summed : total ≡ sum bytes
  pub small : total ≤ 4080

-- bytes before others, if there are others
abbrev pub behind : List ℕ → Option (List ℕ) → Option (List ℕ)
behind front None = None
behind front (Some bs) = Some (front ++ bs)
