-- What the elements of an ECU-MEM are read as.
use Rattle.std.specs.Prelude.{ℕ, Bool, true, false, List, [], ◌∷◌, codes, Option, Some, None, unwrap_or, Ok, Err, if◌then◌else◌}
use Rattle.odx_tree.specs.declared.element.Element.{Element}
use Rattle.ecu_mem.specs.declared.types.Ident.{Ident}
use Rattle.ecu_mem.specs.declared.types.Check.{Check}
use Rattle.ecu_mem.specs.declared.types.Format.{Format}
use Rattle.ecu_mem.specs.declared.types.Source.{Source}
use Rattle.ecu_mem.specs.declared.entry.Entry.{Entry}
use Rattle.ecu_mem.specs.declared.entry.Entry.TheVariants as entry
use Rattle.ecu_mem.specs.Refusals.{Reading, ◌>>=◌, read_as, both, missing}
use Rattle.ecu_mem.specs.Parts.{required, required_of, read_at, optional, choice, each, listed, kid_of_two, attribute_in, has_tag}
use Rattle.ecu_mem.specs.Values.{text_in, address_in, byte_in, bytes_in, segment_in, filter_in, ident_value_in, format_in, plain_in, inside_in, file_in}

abbrev pub at_least_one : List (List ℕ) → Reading (List (List ℕ))
at_least_one [] = Err (missing (codes "IDENT-VALUE"))
at_least_one (v ∷ vs) = Ok (v ∷ vs)

-- IDENT-VALUES
abbrev pub values_in : Element → Reading (List (List ℕ))
values_in e = each (codes "IDENT-VALUE") ident_value_in e >>= at_least_one

-- an IDENT-VALUE that stands directly
abbrev pub one_value_in : Element → Reading (List (List ℕ))
one_value_in e = ident_value_in e >>= λ v. Ok (v ∷ [])

-- EXPECTED-IDENT and OWN-IDENT
abbrev pub ident_in : Element → Reading Ident
ident_in e =
    both (required (codes "SHORT-NAME") text_in e)
    (choice (codes "IDENT-VALUES") values_in (codes "IDENT-VALUE") one_value_in e)
    >>= λ p. Ok (record { name = p.0; values = p.1 })

abbrev pub check_of : List ℕ × (Option ℕ × ((ℕ × ℕ) × (List ℕ × List ℕ))) → Check
check_of p = record {
  name = p.0;
  from = p.1.1.0.0;
  size = p.1.1.0.1;
  fill = p.1.0;
  alg = p.1.1.1.0;
  result = p.1.1.1.1;
}

-- CHECKSUM
abbrev pub check_in : Element → Reading Check
check_in e =
    read_as check_of (both (required (codes "SHORT-NAME") text_in e)
    (both (optional (codes "FILLBYTE") byte_in e)
    (both (segment_in e)
    (both (required (codes "CHECKSUM-ALG") text_in e)
    (required (codes "CHECKSUM-RESULT") bytes_in e)))))

abbrev pub session_of : List ℕ × (List ℕ × (List Ident × (List Check × List (List ℕ)))) → Entry
session_of p = entry.Session (record {
  id = p.0;
  name = p.1.0;
  blocks = [];
  idents = p.1.1.0;
  checks = p.1.1.1.0;
}) p.1.1.1.1

-- SESSION, with the IDs of its datablocks
abbrev pub session_in : Element → Reading Entry
session_in e =
    read_as session_of (both (attribute_in (codes "ID") e)
    (both (required (codes "SHORT-NAME") text_in e)
    (both (listed (codes "EXPECTED-IDENTS") (codes "EXPECTED-IDENT") ident_in e)
    (both (listed (codes "CHECKSUMS") (codes "CHECKSUM") check_in e)
    (listed (codes "DATABLOCK-REFS") (codes "DATABLOCK-REF") (attribute_in (codes "ID-REF")) e)))))

abbrev pub signed : Bool → Reading ℕ → Reading (Bool × ℕ)
signed down (Ok n) = Ok (down, n)
signed down (Err r) = Err r

abbrev pub down_of : Option (ℕ × Element) → Reading (Bool × ℕ)
down_of found = signed true (required_of (codes "POSITIVE-OFFSET") address_in found)

abbrev pub up_of : Element → Option (ℕ × Element) → Reading (Bool × ℕ)
up_of e None = down_of (kid_of_two (codes "NEGATIVE-OFFSET") (codes "NEG-OFFSET") e)
up_of e (Some p) = signed false (read_at address_in p)

-- TARGET-ADDR-OFFSET: whether the offset is subtracted, and the offset
abbrev pub offset_in : Element → Reading (Bool × ℕ)
offset_in e = up_of e (kid_of_two (codes "POSITIVE-OFFSET") (codes "POS-OFFSET") e)

abbrev pub offset_or_0 : Option (Bool × ℕ) → Bool × ℕ
offset_or_0 o = unwrap_or o (false, 0)

abbrev pub block_of : List ℕ × (List ℕ
    × (List ℕ × (List (ℕ × ℕ) × (List (ℕ × ℕ) × (Option (Bool × ℕ) × List Ident))))) → Entry
block_of p = entry.Block
    (record {
      id = p.0;
      name = p.1.0;
      flash = 0;
      filters = p.1.1.1.0;
      segments = p.1.1.1.1.0;
      down = (offset_or_0 p.1.1.1.1.1.0).0;
      offset = (offset_or_0 p.1.1.1.1.1.0).1;
      own = p.1.1.1.1.1.1;
    }) p.1.1.0

-- DATABLOCK, with the ID of its flash data
abbrev pub block_in : Element → Reading Entry
block_in e =
    read_as block_of (both (attribute_in (codes "ID") e)
    (both (required (codes "SHORT-NAME") text_in e)
    (both (required (codes "FLASHDATA-REF") (attribute_in (codes "ID-REF")) e)
    (both (listed (codes "FILTERS") (codes "FILTER") filter_in e)
    (both (listed (codes "SEGMENTS") (codes "SEGMENT") segment_in e)
    (both (optional (codes "TARGET-ADDR-OFFSET") offset_in e)
    (listed (codes "OWN-IDENTS") (codes "OWN-IDENT") ident_in e)))))))

abbrev pub flash_of : List ℕ × (Format × (Option Bool × Source)) → Entry
flash_of p =
    entry.Flash (record { id = p.0; format = p.1.0; plain = unwrap_or p.1.1.0 true; source = p.1.1.1 })

-- FLASHDATA
abbrev pub flash_in : Element → Reading Entry
flash_in e =
    read_as flash_of (both (attribute_in (codes "ID") e)
    (both (required (codes "DATAFORMAT") format_in e)
    (both (optional (codes "ENCRYPT-COMPRESS-METHOD") plain_in e)
    (choice (codes "DATA") inside_in (codes "DATAFILE") file_in e))))

-- a session, a datablock or flash data, by its tag; an ECU-MEM comes here where it has no MEM
abbrev pub entry_in : Element → Reading Entry
entry_in e =
    if has_tag (codes "SESSION") e then session_in e
    else if has_tag (codes "DATABLOCK") e then block_in e
    else if has_tag (codes "FLASHDATA") e then flash_in e
    else Err (missing (codes "MEM"))
