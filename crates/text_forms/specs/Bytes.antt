-- Texts of hexadecimal digits as bytes.
use Rattle.std.specs.Prelude.{ℕ, ◌+◌, ◌*◌, List, [], ◌∷◌, Option, Some, None, option_and_then, Result, Ok, Err}
use Rattle.hex.specs.Hex.{decode_of}
use Rattle.hex.specs.declared.error.FromHexError.{FromHexError}
use Rattle.text_forms.specs.Numbers.{hex_digit}

-- two digits, the higher first
abbrev pub byte_text : List ℕ → Option ℕ
byte_text (h ∷ l ∷ []) =
    option_and_then (λ high. option_and_then (λ low. Some (high * 16 + low)) (hex_digit l)) (hex_digit h)
byte_text _ = None

abbrev pub decoded : Result (List ℕ) FromHexError → Option (List ℕ)
decoded (Ok bytes) = Some bytes
decoded (Err e) = None

-- pairs of digits
abbrev pub bytes_text : List ℕ → Option (List ℕ)
bytes_text text = decoded (decode_of text)
