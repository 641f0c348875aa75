-- Texts of elements as values.
use Rattle.std.specs.Prelude.{ℕ, ◌+◌, ◌-◌, Bool, false, ◌==◌, ◌&&◌, nat_lt, nat_le, List, [], ◌∷◌, bytes_eq, codes, Option, Some, None, Ok, Err, if◌then◌else◌}
use Rattle.std.specs.List.{list_all}
use Rattle.odx_tree.specs.declared.element.Element.{Element, out-Element}
use Rattle.text_forms.specs.Trim.{cut}
use Rattle.text_forms.specs.Numbers.{hex_text, decimal_text}
use Rattle.text_forms.specs.Bytes.{byte_text, bytes_text}
use Rattle.text_forms.specs.FileNames.{file_name}
use Rattle.span_store.specs.ByteMap.{top}
use Rattle.ecu_mem.specs.declared.types.Format.{Format}
use Rattle.ecu_mem.specs.declared.types.Format.TheVariants.{IntelHex, MotorolaS, Binary, UserDefined}
use Rattle.ecu_mem.specs.declared.types.Source.{Source}
use Rattle.ecu_mem.specs.declared.types.Source.TheVariants.{Inside, File}
use Rattle.ecu_mem.specs.Refusals.{Reading, ◌>>=◌, both, bad_number}
use Rattle.ecu_mem.specs.Parts.{required, choice, attribute, attribute_in}

-- a text without blanks at its ends
abbrev pub text_of : Element → List ℕ
text_of e = cut (out-Element e).text

abbrev pub or_bad : {A : Type 0} → Option A → Reading A
or_bad None = Err bad_number
or_bad (Some x) = Ok x

abbrev pub text_in : Element → Reading (List ℕ)
text_in e = Ok (text_of e)

abbrev pub if_within : ℕ → Option ℕ → Option ℕ
if_within limit None = None
if_within limit (Some n) = if nat_lt n limit then Some n else None

-- an address or an offset: 1 to 16 hexadecimal digits, below the limit
abbrev pub address_in : Element → Reading ℕ
address_in e = or_bad (if_within top (hex_text (text_of e)))

-- two hexadecimal digits
abbrev pub byte_in : Element → Reading ℕ
byte_in e = or_bad (byte_text (text_of e))

-- pairs of hexadecimal digits
abbrev pub bytes_in : Element → Reading (List ℕ)
bytes_in e = or_bad (bytes_text (text_of e))

-- the size from a start to an end, which is included and at least the start
abbrev pub size_to : ℕ → ℕ → Reading ℕ
size_to start end = if nat_le start end then Ok (end + 1 - start) else Err bad_number

abbrev pub end_in : ℕ → Element → Reading ℕ
end_in start e = address_in e >>= λ end. size_to start end

abbrev pub size_from : ℕ → Option ℕ → Option ℕ
size_from start None = None
size_from start (Some n) = if nat_lt 0 n && nat_le (start + n) top then Some n else None

-- decimal digits that say a size from 1, where start and size end at most at the limit
abbrev pub size_in : ℕ → Element → Reading ℕ
size_in start e = or_bad (size_from start (decimal_text (text_of e)))

abbrev pub or_0 : Reading ℕ → ℕ
or_0 (Ok n) = n
or_0 (Err r) = 0

-- the size of a range, by its end or its size. Where the start itself is refused, both are judged as after 0
abbrev pub extent_in : List ℕ → List ℕ → Reading ℕ → Element → Reading ℕ
extent_in last size start e = choice last (end_in (or_0 start)) size (size_in (or_0 start)) e

-- a range, by the tags of its start, its end and its size: the address and the size
abbrev pub range_in : List ℕ → List ℕ → List ℕ → Element → Reading (ℕ × ℕ)
range_in start last size e =
    both (required start address_in e) (extent_in last size (required start address_in e) e)

abbrev pub segment_in : Element → Reading (ℕ × ℕ)
segment_in e =
    range_in (codes "SOURCE-START-ADDRESS") (codes "SOURCE-END-ADDRESS") (codes "UNCOMPRESSED-SIZE") e

abbrev pub filter_in : Element → Reading (ℕ × ℕ)
filter_in e = range_in (codes "FILTER-START") (codes "FILTER-END") (codes "FILTER-SIZE") e

abbrev pub is_bytefield : Option (List ℕ) → Bool
is_bytefield None = false
is_bytefield (Some kind) = bytes_eq kind (codes "A_BYTEFIELD")

abbrev pub if_filled : List ℕ → Reading (List ℕ)
if_filled [] = Err bad_number
if_filled (x ∷ xs) = Ok (x ∷ xs)

-- hexadecimal bytes or a text, and not empty
abbrev pub ident_value_in : Element → Reading (List ℕ)
ident_value_in e = (if is_bytefield (attribute (codes "TYPE") e) then bytes_in e else text_in e) >>= if_filled

abbrev pub format_of : List ℕ → Option Format
format_of name =
    if bytes_eq name (codes "INTEL-HEX") then Some IntelHex
    else if bytes_eq name (codes "MOTOROLA-S") then Some MotorolaS
    else if bytes_eq name (codes "BINARY") then Some Binary
    else if bytes_eq name (codes "USER-DEFINED") then Some UserDefined
    else None

abbrev pub format_in : Element → Reading Format
format_in e = attribute_in (codes "SELECTION") e >>= λ name. or_bad (format_of name)

-- the method says neither compression nor encryption: it is empty or only digits 0
abbrev pub plain_in : Element → Reading Bool
plain_in e = Ok (list_all (λ c. c == 48) (text_of e))

abbrev pub inside_in : Element → Reading Source
inside_in e = Ok (Inside (text_of e))

abbrev pub file_in : Element → Reading Source
file_in e = if file_name (text_of e) then Ok (File (text_of e)) else Err bad_number
