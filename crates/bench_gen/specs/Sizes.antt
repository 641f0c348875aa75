-- What a drill's number makes: how many units, how many bytes each is given, which bytes, and what each unit
-- is called.
use Rattle.std.specs.Prelude.{ℕ, ◌+◌, ◌-◌, ◌*◌, ◌/◌, ◌%◌, List, [], ◌∷◌, ◌++◌, nat_lt, map, if◌then◌else◌}
use Rattle.std.specs.List.{range_with_len}

abbrev pub units_of : ℕ → ℕ
units_of n = 2 + n % 11

-- the bytes of one unit
abbrev pub bytes_of : ℕ → ℕ
bytes_of n = 4096 * (1 + n / 11 % 256)

-- the same in rows of 256 bytes
abbrev pub rows_of : ℕ → ℕ
rows_of n = 16 * (1 + n / 11 % 256)

-- a unit's bytes in blocks of 4,093: a unit that takes 4,095 bytes a request
abbrev pub blocks_of : ℕ → ℕ
blocks_of n = (bytes_of n + 4092) / 4093

-- the bytes and the blocks of all units
abbrev pub all_bytes_of : ℕ → ℕ
all_bytes_of n = units_of n * bytes_of n

abbrev pub all_blocks_of : ℕ → ℕ
all_blocks_of n = units_of n * blocks_of n

-- where every image begins
abbrev pub base : ℕ
base = 65536

-- byte i of the image of unit k
abbrev pub image_byte : ℕ → ℕ → ℕ → ℕ
image_byte n k i = (i + i / 256 + 31 * k + n) % 256

abbrev pub image_of : ℕ → ℕ → List ℕ
image_of n k = map (image_byte n k) (range_with_len 0 (bytes_of n))

-- the units that come before unit k: the whole group before its own, of four units
abbrev pub before : ℕ → List ℕ
before k = if nat_lt k 4 then [] else range_with_len (k / 4 * 4 - 4) 4

-- a number below 100 in two digits
abbrev pub two_digits : ℕ → List ℕ
two_digits k = (48 + k / 10) ∷ (48 + k % 10) ∷ []

-- a name of unit k: a letter and two digits
abbrev pub numbered : List ℕ → ℕ → List ℕ
numbered letter k = letter ++ two_digits k
