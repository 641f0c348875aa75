-- One line of a text of S-records.
use Rattle.std.specs.Prelude.{ℕ, ◌+◌, ◌-◌, ◌*◌, ◌%◌, ◌^◌, Bool, ◌&&◌, ◌||◌, List, [], ◌∷◌, length, sum, take, slice_index, nat_eq, nat_le, Option, Some, None, Result, Ok, Err, if◌then◌else◌}
use Rattle.rec_text.specs.Digits.{bytes_of}
use Rattle.rec_text.specs.declared.fault.RecFault.{RecFault}
use Rattle.rec_text.specs.declared.fault.RecFault.TheVariants.{BadLine, BadSum}

-- whether a kind of line carries data, or a header
abbrev pub has_data : ℕ → Bool
has_data kind = nat_le kind 3

-- how many bytes the address of a kind of line has, or the count in its place; 0 where there is no such kind
abbrev pub width : ℕ → ℕ
width kind =
    if nat_eq kind 3 || nat_eq kind 7 then 4
    else (if nat_eq kind 2 || (nat_eq kind 6 || nat_eq kind 8) then 3
    else (if nat_eq kind 0 || (nat_eq kind 1 || (nat_eq kind 5 || nat_eq kind 9)) then 2 else 0))

-- the number that so many bytes behind the first are, the first of them the greatest
abbrev pub number_at : ℕ → List ℕ → ℕ
number_at w bytes =
    let two = slice_index bytes 1 * 256 + slice_index bytes 2 in
    if nat_eq w 4 then (two * 256 + slice_index bytes 3) * 256 + slice_index bytes 4
    else (if nat_eq w 3 then two * 256 + slice_index bytes 3 else two)

-- how many bytes of data a line has, by its count and the width of its address
abbrev pub size_of : ℕ → List ℕ → ℕ
size_of w bytes = slice_index bytes 0 - (w + 1)

-- whether a line of this kind, whose address has so many bytes, may have this count
abbrev pub is_count : ℕ → ℕ → ℕ → Bool
is_count kind w count = if has_data kind then nat_le (w + 1) count else nat_eq count (w + 1)

-- whether the bytes are a count, and then as many as it says: an address of the kind's width, data where
-- the kind has data, and a checksum; and the data stand below 2^32
abbrev pub is_record : ℕ → List ℕ → Bool
is_record kind bytes =
    nat_eq (length bytes) (slice_index bytes 0 + 1)
    && (nat_le 2 (width kind)
    && (is_count kind (width kind) (slice_index bytes 0)
    && nat_le (number_at (width kind) bytes + size_of (width kind) bytes) (2 ^ 32)))

abbrev pub checked : ℕ → ℕ → Option (List ℕ) → Result (ℕ × List ℕ) RecFault
checked n kind None = Err (BadLine n)
checked n kind (Some bytes) =
    if is_record kind bytes then (if nat_eq (sum bytes % 256) 255 then Ok (kind, bytes) else Err (BadSum n))
    else Err (BadLine n)

-- the kind and the bytes of line n
abbrev pub record_of : ℕ → List ℕ → Result (ℕ × List ℕ) RecFault
record_of n [] = Err (BadLine n)
record_of n (c ∷ []) = Err (BadLine n)
record_of n (c ∷ k ∷ digits) =
    if nat_eq c 83 && nat_le 48 k then checked n (k - 48) (bytes_of digits) else Err (BadLine n)

-- the first bytes of a buffer, as many as were filled
abbrev pub filled : List ℕ → Result (ℕ × ℕ) RecFault → Result (ℕ × List ℕ) RecFault
filled buffer (Ok r) = Ok (r.0, take r.1 buffer)
filled buffer (Err e) = Err e
