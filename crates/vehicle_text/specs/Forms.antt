-- How single values are written.
use Rattle.std.specs.Prelude.{ℕ, ◌/◌, ◌%◌, Bool, List, [], ◌∷◌, codes, nat_lt, if◌then◌else◌}
use Rattle.hex.specs.Hex.{encode_upper}
use Rattle.serde_json.specs.Data.{Data, boolean, number, string, unsigned}
use Rattle.flash_base.specs.Numbers.{big_endian}
use Rattle.unit_model.specs.RegionTests.{LIMIT}

-- two hexadecimal digits
abbrev pub two_data : ℕ → Data
two_data n = string (encode_upper (n ∷ []))

abbrev pub four_text : ℕ → List ℕ
four_text n = encode_upper (n / 256 ∷ n % 256 ∷ [])

-- four hexadecimal digits
abbrev pub four_data : ℕ → Data
four_data n = string (four_text n)

-- an address: ten hexadecimal digits; sixteen where it is not below the limit
abbrev pub place_text : ℕ → List ℕ
place_text n = if nat_lt n LIMIT then encode_upper (big_endian 5 n) else encode_upper (big_endian 8 n)

abbrev pub place_data : ℕ → Data
place_data n = string (place_text n)

-- bytes in pairs of hexadecimal digits
abbrev pub bytes_data : List ℕ → Data
bytes_data bytes = string (encode_upper bytes)

abbrev pub whole_data : ℕ → Data
whole_data n = number (unsigned n)

abbrev pub flag_data : Bool → Data
flag_data b = boolean b

abbrev pub off_data : Data
off_data = string (codes "off")
