-- One line of a text.
use Rattle.std.specs.Prelude.{ℕ, ◌+◌, ◌%◌, Bool, ◌&&◌, ◌||◌, List, [], ◌∷◌, length, sum, take, slice_index, nat_eq, Option, Some, None, Result, Ok, Err, if◌then◌else◌}
use Rattle.rec_text.specs.Digits.{bytes_of}
use Rattle.rec_text.specs.declared.fault.RecFault.{RecFault}
use Rattle.rec_text.specs.declared.fault.RecFault.TheVariants.{BadLine, BadSum}

-- whether a kind of line has this count
abbrev pub is_kind : ℕ → ℕ → Bool
is_kind kind count =
    nat_eq kind 0
    || ((nat_eq kind 1 && nat_eq count 0)
    || (((nat_eq kind 2 || nat_eq kind 4) && nat_eq count 2)
    || ((nat_eq kind 3 || nat_eq kind 5) && nat_eq count 4)))

-- whether the bytes are a count, an offset, a kind, that many bytes and a checksum
abbrev pub is_record : List ℕ → Bool
is_record bytes =
    nat_eq (length bytes) (slice_index bytes 0 + 5) && is_kind (slice_index bytes 3) (slice_index bytes 0)

abbrev pub checked : ℕ → Option (List ℕ) → Result (List ℕ) RecFault
checked n None = Err (BadLine n)
checked n (Some bytes) = if is_record bytes
    then (if nat_eq (sum bytes % 256) 0 then Ok bytes else Err (BadSum n)) else Err (BadLine n)

-- the bytes of line n
abbrev pub record_of : ℕ → List ℕ → Result (List ℕ) RecFault
record_of n [] = Err (BadLine n)
record_of n (c ∷ digits) = if nat_eq c 58 then checked n (bytes_of digits) else Err (BadLine n)

-- the first bytes of a buffer, as many as were filled
abbrev pub filled : List ℕ → Result ℕ RecFault → Result (List ℕ) RecFault
filled buffer (Ok k) = Ok (take k buffer)
filled buffer (Err e) = Err e
