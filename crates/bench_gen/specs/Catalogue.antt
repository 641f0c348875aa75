-- The catalogue: for each unit a session with its expected ident, a datablock with one segment by its size,
-- and flash data in a file of Intel HEX.
use Rattle.std.specs.Prelude.{ℕ, List, [], ◌∷◌, ◌++◌, codes, decimal, map}
use Rattle.std.specs.List.{range_with_len}
use Rattle.serde_json.specs.Data.{Data}
use Rattle.bench_gen.specs.Elements.{leaf, node, pointing, marked}
use Rattle.bench_gen.specs.Sizes.{units_of, bytes_of, numbered}

abbrev pub hex_name : ℕ → List ℕ
hex_name k = numbered (codes "u") k ++ codes ".hex"

-- the ident `SWNR`, which has the value `OLD`
abbrev pub expected : Data
expected =
    node (codes "EXPECTED-IDENT") (leaf (codes "SHORT-NAME") (codes "SWNR")
    ∷ node (codes "IDENT-VALUES") (leaf (codes "IDENT-VALUE") (codes "OLD") ∷ []) ∷ [])

abbrev pub expected_idents : Data
expected_idents = node (codes "EXPECTED-IDENTS") (expected ∷ [])

abbrev pub datablock_refs : ℕ → Data
datablock_refs k =
    node (codes "DATABLOCK-REFS")
    (pointing (codes "DATABLOCK-REF") (codes "ID-REF") (numbered (codes "D") k) ∷ [])

abbrev pub short_name : List ℕ → Data
short_name id = leaf (codes "SHORT-NAME") id

abbrev pub session : ℕ → Data
session k =
    marked (codes "SESSION") (codes "ID") (numbered (codes "S") k)
    (short_name (numbered (codes "S") k) ∷ expected_idents ∷ datablock_refs k ∷ [])

-- the one segment, which begins at address 00010000
abbrev pub segment : ℕ → Data
segment size =
    node (codes "SEGMENT") (leaf (codes "SOURCE-START-ADDRESS") (codes "00010000")
    ∷ leaf (codes "UNCOMPRESSED-SIZE") (decimal size) ∷ [])

abbrev pub segments : ℕ → Data
segments size = node (codes "SEGMENTS") (segment size ∷ [])

abbrev pub flashdata_ref : ℕ → Data
flashdata_ref k = pointing (codes "FLASHDATA-REF") (codes "ID-REF") (numbered (codes "F") k)

abbrev pub datablock : ℕ → ℕ → Data
datablock size k =
    marked (codes "DATABLOCK") (codes "ID") (numbered (codes "D") k)
    (short_name (numbered (codes "D") k) ∷ flashdata_ref k ∷ segments size ∷ [])

abbrev pub dataformat : Data
dataformat = pointing (codes "DATAFORMAT") (codes "SELECTION") (codes "INTEL-HEX")

abbrev pub datafile : ℕ → Data
datafile k = leaf (codes "DATAFILE") (hex_name k)

abbrev pub flashdata : ℕ → Data
flashdata k = marked (codes "FLASHDATA") (codes "ID") (numbered (codes "F") k) (dataformat ∷ datafile k ∷ [])

-- one of each for every unit
abbrev pub each : (ℕ → Data) → ℕ → List Data
each f units = map f (range_with_len 0 units)

abbrev pub mem : ℕ → ℕ → Data
mem units size =
    node (codes "MEM")
    (node (codes "SESSIONS") (each session units)
    ∷ node (codes "DATABLOCKS") (each (datablock size) units)
    ∷ node (codes "FLASHDATAS") (each flashdata units) ∷ [])

abbrev pub catalogue_data : ℕ → Data
catalogue_data n = node (codes "ECU-MEM") (mem (units_of n) (bytes_of n) ∷ [])
