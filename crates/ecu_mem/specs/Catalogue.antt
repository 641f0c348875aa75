-- The catalogue of an element tree: its lists in document order, or the first refusal.
use Rattle.std.specs.Prelude.{ℕ, ◌+◌, List, [], ◌∷◌, ◌++◌, ⊤, bytes_eq, codes, is_some, Option, Some, None, Result, Ok, Err, if◌then◌else◌}
use Rattle.odx_tree.specs.declared.element.Element.{Element}
use Rattle.ecu_mem.specs.declared.types.Session.{Session}
use Rattle.ecu_mem.specs.declared.types.Block.{Block}
use Rattle.ecu_mem.specs.declared.types.Flash.{Flash}
use Rattle.ecu_mem.specs.declared.types.EcuMem.{EcuMem}
use Rattle.ecu_mem.specs.declared.entry.Entry.{Entry}
use Rattle.ecu_mem.specs.declared.entry.Entry.TheVariants as entry
use Rattle.ecu_mem.specs.declared.entry.Target.{Target}
use Rattle.ecu_mem.specs.declared.entry.Target.TheVariants as target
use Rattle.ecu_mem.specs.declared.fault.MemFault.{MemFault}
use Rattle.ecu_mem.specs.declared.fault.MemFault.TheVariants as fault
use Rattle.ecu_mem.specs.declared.refusal.Refusal.{Refusal}
use Rattle.ecu_mem.specs.declared.refusal.Wrong.{Wrong}
use Rattle.ecu_mem.specs.declared.refusal.Wrong.TheVariants.{Missing, BadNumber, Twice}
use Rattle.ecu_mem.specs.Refusals.{Reading, ◌>>=◌, both, in_kid, twice}
use Rattle.ecu_mem.specs.Parts.{attribute}
use Rattle.ecu_mem.specs.Elements.{entry_in}
use Rattle.ecu_mem.specs.Places.{Place, element_at, carriers, ecu_mems}

abbrev pub id_of : Entry → List ℕ
id_of (entry.Session s refs) = s.id
id_of (entry.Block b ref) = b.id
id_of (entry.Flash f) = f.id

abbrev pub blocks_with : ℕ → Entry → ℕ
blocks_with n (entry.Session s refs) = n
blocks_with n (entry.Block b ref) = n + 1
blocks_with n (entry.Flash f) = n

abbrev pub flashes_with : ℕ → Entry → ℕ
flashes_with n (entry.Session s refs) = n
flashes_with n (entry.Block b ref) = n
flashes_with n (entry.Flash f) = n + 1

-- how many datablocks, and how many flash data, there are with those of the entries
abbrev pub blocks_after : ℕ → List Entry → ℕ
blocks_after n [] = n
blocks_after n (e ∷ es) = blocks_after (blocks_with n e) es

abbrev pub flashes_after : ℕ → List Entry → ℕ
flashes_after n [] = n
flashes_after n (e ∷ es) = flashes_after (flashes_with n e) es

-- what an entry is, after so many datablocks and flash data: its position is the number of those before it
abbrev pub target_at : ℕ → ℕ → Entry → Target
target_at blocks flashes (entry.Session s refs) = target.Session
target_at blocks flashes (entry.Block b ref) = target.Block blocks
target_at blocks flashes (entry.Flash f) = target.Flash flashes

abbrev pub target_from : ℕ → ℕ → List Entry → List ℕ → Option Target
target_from blocks flashes [] id = None
target_from blocks flashes (e ∷ es) id =
    if bytes_eq (id_of e) id then Some (target_at blocks flashes e)
    else target_from (blocks_with blocks e) (flashes_with flashes e) es id

-- what an ID stands for in a document
abbrev pub target_of : List Entry → List ℕ → Option Target
target_of es id = target_from 0 0 es id

-- an element's ID is not that of an earlier entry
abbrev pub unique : List Entry → Option (List ℕ) → Reading ⊤
unique es None = Ok tt
unique es (Some id) = if is_some (target_of es id) then Err (twice id) else Ok tt

-- the entries with one more
unfoldable pub with_element : Element → List Entry → Reading (List Entry)
with_element e es = both (entry_in e) (unique es (attribute (codes "ID") e)) >>= λ p. Ok (es ++ p.0 ∷ [])

abbrev pub in_place : {A : Type 0} → Place → Reading A → Reading A
in_place [] r = r
in_place (i ∷ p) r = in_kid i (in_place p r)

-- from entries to entries, over the elements at these places one after another
abbrev pub over_places : (Element → List Entry → Reading (List Entry)) → Element → List Place → List Entry
    → Reading (List Entry)
over_places step root [] es = Ok es
over_places step root (p ∷ ps) es =
    in_place p (step (element_at root p) es) >>= λ more. over_places step root ps more

-- the entries with those of an ECU-MEM
unfoldable pub with_ecu_mem : Element → List Entry → Reading (List Entry)
with_ecu_mem e es = over_places with_element e (carriers e) es

-- all entries of a document
abbrev pub entries_of : Element → Reading (List Entry)
entries_of root = over_places with_ecu_mem root (ecu_mems root) []

abbrev pub block_found : Option Target → Option ℕ
block_found (Some (target.Block i)) = Some i
block_found _ = None

abbrev pub flash_found : Option Target → Option ℕ
flash_found (Some (target.Flash i)) = Some i
flash_found _ = None

-- the second step, where the first gave a value
abbrev pub and_then : {A B : Type 0} → Result A MemFault → (A → Result B MemFault) → Result B MemFault
and_then (Ok x) f = f x
and_then (Err e) f = Err e

abbrev pub position_or_dangling : List ℕ → Option ℕ → Result ℕ MemFault
position_or_dangling id None = Err (fault.Dangling id)
position_or_dangling id (Some i) = Ok i

-- the positions of the datablocks with these IDs
abbrev pub positions_of : (List ℕ → Option Target) → List (List ℕ) → Result (List ℕ) MemFault
positions_of find [] = Ok []
positions_of find (id ∷ ids) = and_then (position_or_dangling id (block_found (find id)))
    (λ i. and_then (positions_of find ids) (λ is. Ok (i ∷ is)))

abbrev pub linked_block : (List ℕ → Option Target) → Block → List ℕ → Result Block MemFault
linked_block find b id =
    and_then (position_or_dangling id (flash_found (find id))) (λ i. Ok (record b { flash = i }))

abbrev pub with_session : Session → EcuMem → EcuMem
with_session s m = record m { sessions = s ∷ m.sessions }

abbrev pub with_block : Block → EcuMem → EcuMem
with_block b m = record m { blocks = b ∷ m.blocks }

abbrev pub with_flash : Flash → EcuMem → EcuMem
with_flash f m = record m { flashes = f ∷ m.flashes }

-- the document of these entries, in document order, where IDs are replaced by what they stand for; or the first ID that stands for nothing of the kind
abbrev pub linked : (List ℕ → Option Target) → List Entry → Result EcuMem MemFault
linked find [] = Ok (record { sessions = []; blocks = []; flashes = [] })
linked find (entry.Session s ids ∷ es) =
    and_then (positions_of find ids) (λ is. and_then (linked find es)
    (λ m. Ok (with_session (record s { blocks = is }) m)))
linked find (entry.Block b id ∷ es) =
    and_then (linked_block find b id) (λ x. and_then (linked find es) (λ m. Ok (with_block x m)))
linked find (entry.Flash f ∷ es) = and_then (linked find es) (λ m. Ok (with_flash f m))

abbrev pub fault_at : Place → Wrong → MemFault
fault_at path (Missing tag) = fault.Missing path tag
fault_at path BadNumber = fault.BadNumber path
fault_at path (Twice id) = fault.Twice id

abbrev pub fault_of : Refusal → MemFault
fault_of r = fault_at r.path r.wrong

abbrev pub linked_or_refused : Reading (List Entry) → Result EcuMem MemFault
linked_or_refused (Ok es) = linked (target_of es) es
linked_or_refused (Err r) = Err (fault_of r)

-- the catalogue of a document
abbrev pub catalogue : Element → Result EcuMem MemFault
catalogue root = linked_or_refused (entries_of root)
