-- Bytes as pairs of upper-case hexadecimal digits.
use Rattle.std.specs.Prelude.{ℕ, ◌+◌, ◌/◌, ◌%◌, List, [], ◌∷◌, nat_lt, if◌then◌else◌}

-- the digit of a value below 16
abbrev pub digit_char : ℕ → ℕ
digit_char d = if nat_lt d 10 then 48 + d else 55 + d

-- two digits for each byte, the upper half of the byte first
abbrev pub digits_of : List ℕ → List ℕ
digits_of [] = []
digits_of (b ∷ bs) = digit_char (b / 16) ∷ digit_char (b % 16) ∷ digits_of bs
