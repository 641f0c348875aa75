-- The catalogue of a drill as a tree of elements.
use Rattle.std.proofs.Common.{◌≡◌, ℕ, zero, suc, ◌+◌, List, [], ◌∷◌, codes, decimal, map, Some, Ok, refl}
use Rattle.std.specs.List.{range_with_len}
use Rattle.serde_json.specs.Data.{Data, string}
use Rattle.serde_json.specs.View.{items_of}
use Rattle.bench_gen.specs.Catalogue as file
use Rattle.bench_gen.specs.Elements as json
use Rattle.bench_gen.specs.Sizes.{numbered}
use Rattle.odx_tree.specs.Tree.{element, elements, tag_of}
use Rattle.odx_tree.specs.declared.element.Element.{Element, roll-Element}

abbrev pub element_with : List ℕ → List (List ℕ × List ℕ) → List Element → List ℕ → Element
element_with tag attrs kids text = roll-Element (record { tag = tag; attrs = attrs; kids = kids; text = text })

abbrev pub leaf : List ℕ → List ℕ → Element
leaf tag text = element_with tag [] [] text

abbrev pub node : List ℕ → List Element → Element
node tag kids = element_with tag [] kids []

abbrev pub pointing : List ℕ → List ℕ → List ℕ → Element
pointing tag key value = element_with tag ((key, value) ∷ []) [] []

abbrev pub marked : List ℕ → List ℕ → List ℕ → List Element → Element
marked tag key value kids = element_with tag ((key, value) ∷ []) kids []

abbrev pub expected : Element
expected =
    node (codes "EXPECTED-IDENT") (leaf (codes "SHORT-NAME") (codes "SWNR")
    ∷ node (codes "IDENT-VALUES") (leaf (codes "IDENT-VALUE") (codes "OLD") ∷ []) ∷ [])

abbrev pub session : ℕ → Element
session k =
    marked (codes "SESSION") (codes "ID") (numbered (codes "S") k)
    (leaf (codes "SHORT-NAME") (numbered (codes "S") k) ∷ node (codes "EXPECTED-IDENTS") (expected ∷ [])
    ∷ node (codes "DATABLOCK-REFS") (pointing (codes "DATABLOCK-REF") (codes "ID-REF") (numbered (codes "D") k) ∷ []) ∷ [])

abbrev pub segment : ℕ → Element
segment size =
    node (codes "SEGMENT") (leaf (codes "SOURCE-START-ADDRESS") (codes "00010000")
    ∷ leaf (codes "UNCOMPRESSED-SIZE") (decimal size) ∷ [])

abbrev pub datablock : ℕ → ℕ → Element
datablock size k =
    marked (codes "DATABLOCK") (codes "ID") (numbered (codes "D") k)
    (leaf (codes "SHORT-NAME") (numbered (codes "D") k)
    ∷ pointing (codes "FLASHDATA-REF") (codes "ID-REF") (numbered (codes "F") k)
    ∷ node (codes "SEGMENTS") (segment size ∷ []) ∷ [])

abbrev pub flashdata : ℕ → Element
flashdata k =
    marked (codes "FLASHDATA") (codes "ID") (numbered (codes "F") k)
    (pointing (codes "DATAFORMAT") (codes "SELECTION") (codes "INTEL-HEX")
    ∷ leaf (codes "DATAFILE") (file.hex_name k) ∷ [])

abbrev pub group : List ℕ → (ℕ → Element) → ℕ → Element
group tag f units = node tag (map f (range_with_len 0 units))

abbrev pub mem : ℕ → ℕ → Element
mem units size =
    node (codes "MEM") (group (codes "SESSIONS") session units
    ∷ group (codes "DATABLOCKS") (datablock size) units ∷ group (codes "FLASHDATAS") flashdata units ∷ [])

abbrev pub root : ℕ → ℕ → Element
root units size = node (codes "ECU-MEM") (mem units size ∷ [])

-- ------ read from its JSON
session_read : (k : ℕ) → element (file.session k) ≡ Ok (session k)
session_read k = refl

datablock_read : (size k : ℕ) → element (file.datablock size k) ≡ Ok (datablock size k)
datablock_read size k = refl

flashdata_read : (k : ℕ) → element (file.flashdata k) ≡ Ok (flashdata k)
flashdata_read k = refl

all_read : (f : ℕ → Data) (g : ℕ → Element) → ((k : ℕ) → element (f k) ≡ Ok (g k)) → (i a m : ℕ) → elements i (items_of (map f (range_with_len a m))) ≡ Ok (map g (range_with_len a m))
all_read f g each i a zero = refl
all_read f g each i a (suc m) = rw (each a, all_read f g each (suc i) (a + 1) m) refl

-- a node by its kids
node_read : (tag : List ℕ) (kids : List Data) (ks : List Element) → tag_of (Some (string tag)) ≡ Ok tag → elements 0 (items_of kids) ≡ Ok ks → element (json.node tag kids) ≡ Ok (node tag ks)
node_read tag kids ks t h = rw (t, h) refl

one_read : (x : Data) (a : Element) → element x ≡ Ok a → elements 0 (items_of (x ∷ [])) ≡ Ok (a ∷ [])
one_read x a p = rw p refl

three_read : (x y z : Data) (a b c : Element) → element x ≡ Ok a → element y ≡ Ok b → element z ≡ Ok c → elements 0 (items_of (x ∷ y ∷ z ∷ [])) ≡ Ok (a ∷ b ∷ c ∷ [])
three_read x y z a b c p q r = rw (p, q, r) refl

group_read : (tag : List ℕ) (f : ℕ → Data) (g : ℕ → Element) (units : ℕ) → tag_of (Some (string tag)) ≡ Ok tag → ((k : ℕ) → element (f k) ≡ Ok (g k)) → element (json.node tag (file.each f units)) ≡ Ok (group tag g units)
group_read tag f g units t each = node_read tag (file.each f units) (map g (range_with_len 0 units)) t (all_read f g each 0 0 units)

mem_read : (units size : ℕ) → element (file.mem units size) ≡ Ok (mem units size)
mem_read units size =
    node_read (codes "MEM")
    (json.node (codes "SESSIONS") (file.each file.session units) ∷ json.node (codes "DATABLOCKS") (file.each (file.datablock size) units) ∷ json.node (codes "FLASHDATAS") (file.each file.flashdata units) ∷ [])
    (group (codes "SESSIONS") session units ∷ group (codes "DATABLOCKS") (datablock size) units ∷ group (codes "FLASHDATAS") flashdata units ∷ [])
    refl
    (three_read (json.node (codes "SESSIONS") (file.each file.session units)) (json.node (codes "DATABLOCKS") (file.each (file.datablock size) units)) (json.node (codes "FLASHDATAS") (file.each file.flashdata units))
    (group (codes "SESSIONS") session units) (group (codes "DATABLOCKS") (datablock size) units) (group (codes "FLASHDATAS") flashdata units)
    (group_read (codes "SESSIONS") file.session session units refl session_read)
    (group_read (codes "DATABLOCKS") (file.datablock size) (datablock size) units refl (datablock_read size))
    (group_read (codes "FLASHDATAS") file.flashdata flashdata units refl flashdata_read))

pub root_read : (units size : ℕ) → element (json.node (codes "ECU-MEM") (file.mem units size ∷ [])) ≡ Ok (root units size)
root_read units size =
    node_read (codes "ECU-MEM") (file.mem units size ∷ []) (mem units size ∷ []) refl (one_read (file.mem units size) (mem units size) (mem_read units size))
