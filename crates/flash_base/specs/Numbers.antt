-- Numbers as bytes, the first byte the greatest: the byte order of UDS, DoIP, the journal and the plan bytes.
use Rattle.std.specs.Prelude.{ℕ, zero, suc, ◌+◌, ◌*◌, ◌/◌, ◌%◌, Bool, true, false, ◌&&◌, ◌||◌, List, [], ◌∷◌, ◌++◌}

-- the number that two bytes are
abbrev pub number2 : ℕ → ℕ → ℕ
number2 b a = b * 256 + a

-- the number that four bytes are
abbrev pub number4 : ℕ → ℕ → ℕ → ℕ → ℕ
number4 d c b a = ((d * 256 + c) * 256 + b) * 256 + a

-- the last n bytes of a number
abbrev pub big_endian : ℕ → ℕ → List ℕ
big_endian zero x = []
big_endian (suc n) x = big_endian n (x / 256) ++ (x % 256 ∷ [])

-- how many numbers n bytes can say
abbrev pub pow256 : ℕ → ℕ
pow256 zero = 1
pow256 (suc n) = 256 * pow256 n

abbrev pub number_after : ℕ → List ℕ → ℕ
number_after n [] = n
number_after n (x ∷ xs) = number_after (n * 256 + x) xs

-- the number that a list of bytes is
abbrev pub number_of : List ℕ → ℕ
number_of xs = number_after 0 xs

-- of each number below n, of some number below n
abbrev pub each_below : ℕ → (ℕ → Bool) → Bool
each_below zero p = true
each_below (suc n) p = each_below n p && p n

abbrev pub some_below : ℕ → (ℕ → Bool) → Bool
some_below zero p = false
some_below (suc n) p = some_below n p || p n
