-- Texts of digits as numbers.
use Rattle.std.specs.Prelude.{ℕ, ◌+◌, ◌-◌, ◌*◌, ◌^◌, Bool, ◌&&◌, ◌||◌, not, nat_le, nat_lt, ◌==◌, List, [], ◌∷◌, length, Option, Some, None, option_and_then, if◌then◌else◌}

abbrev pub is_between : ℕ → ℕ → ℕ → Bool
is_between low high c = nat_le low c && nat_le c high

-- `0` to `9`
abbrev pub decimal_digit : ℕ → Option ℕ
decimal_digit c = if is_between 48 57 c then Some (c - 48) else None

-- `0` to `9`, `A` to `F` and `a` to `f`
abbrev pub hex_digit : ℕ → Option ℕ
hex_digit c =
    if is_between 48 57 c then Some (c - 48)
    else if is_between 65 70 c then Some (c - 55)
    else if is_between 97 102 c then Some (c - 87)
    else None

-- the number that digits say after those that say n
abbrev pub value_after : (ℕ → Option ℕ) → ℕ → ℕ → List ℕ → Option ℕ
value_after digit base n [] = Some n
value_after digit base n (c ∷ cs) = option_and_then (λ d. value_after digit base (n * base + d) cs) (digit c)

-- the number that hexadecimal digits say, the first the greatest
abbrev pub hex_value : List ℕ → Option ℕ
hex_value text = value_after hex_digit 16 0 text

abbrev pub decimal_value : List ℕ → Option ℕ
decimal_value text = value_after decimal_digit 10 0 text

abbrev pub if_below : ℕ → Option ℕ → Option ℕ
if_below limit None = None
if_below limit (Some n) = if nat_lt n limit then Some n else None

-- 1 to 16 hexadecimal digits, which say a number below 2^64
abbrev pub hex_text : List ℕ → Option ℕ
hex_text text =
    if nat_lt 0 (length text) && nat_le (length text) 16 then if_below (2 ^ 64) (hex_value text) else None

-- decimal digits, at least one, that say a number below 2^64
abbrev pub decimal_text : List ℕ → Option ℕ
decimal_text text = if nat_lt 0 (length text) then if_below (2 ^ 64) (decimal_value text) else None
