-- Where the sessions, datablocks and flash data of a document stand, in document order.
use Rattle.std.specs.Prelude.{ℕ, suc, Bool, ◌&&◌, true, false, List, [], ◌∷◌, ◌++◌, map, bytes_eq, codes, is_some, Option, Some, None, get_or, if◌then◌else◌}
use Rattle.odx_tree.specs.declared.element.Element.{Element, fold-Element}
use Rattle.odx_tree.specs.declared.element.Element.TheOpen.{Element-F}
use Rattle.ecu_mem.specs.declared.kind.Kind.{Kind}
use Rattle.ecu_mem.specs.declared.kind.Kind.TheVariants as kind
use Rattle.ecu_mem.specs.declared.kind.Seen.{Seen}
use Rattle.ecu_mem.specs.Parts.{kids_of, has_tag, kid}

-- a place is the list of the kid positions that lead to it
abbrev pub Place : Type 0
Place = List ℕ

-- the places in kid i, as its parent sees them
abbrev pub under : ℕ → List Place → List Place
under i ps = map (λ p. i ∷ p) ps

-- the element at a place
abbrev pub element_at : Element → Place → Element
element_at e [] = e
element_at e (i ∷ p) = element_at (get_or (kids_of e) i e) p

abbrev pub places_from : ℕ → List (List Place) → List Place
places_from i [] = []
places_from i (ps ∷ pss) = under i ps ++ places_from (suc i) pss

abbrev pub ecu_mem_step : Element-F (List Place) → List Place
ecu_mem_step f = if bytes_eq f.tag (codes "ECU-MEM") then [] ∷ [] else places_from 0 f.kids

-- the ECU-MEM elements of a document. One inside another is skipped
abbrev pub ecu_mems : Element → List Place
ecu_mems = fold-Element (List Place) ecu_mem_step

abbrev pub counting_from : ℕ → (Element → Bool) → List Element → List Place
counting_from i counts [] = []
counting_from i counts (e ∷ es) = (if counts e then (i ∷ []) ∷ [] else []) ++ counting_from (suc i) counts es

-- an element of a group counts. A DATABLOCK without FLASHDATA-REF does not
abbrev pub is_member : Kind → Element → Bool
is_member kind.Session e = has_tag (codes "SESSION") e
is_member kind.Block e = has_tag (codes "DATABLOCK") e && is_some (kid (codes "FLASHDATA-REF") e)
is_member kind.Flash e = has_tag (codes "FLASHDATA") e

-- what a kid of MEM holds
abbrev pub group_kind : Element → Option Kind
group_kind e =
    if has_tag (codes "SESSIONS") e then Some kind.Session
    else if has_tag (codes "DATABLOCKS") e then Some kind.Block
    else if has_tag (codes "FLASHDATAS") e then Some kind.Flash
    else None

abbrev pub group_members : Kind → Element → List Place
group_members k e = counting_from 0 (is_member k) (kids_of e)

abbrev pub is_seen : Kind → Seen → Bool
is_seen kind.Session seen = seen.sessions
is_seen kind.Block seen = seen.blocks
is_seen kind.Flash seen = seen.flashes

abbrev pub seen_with : Kind → Seen → Seen
seen_with kind.Session seen = record { sessions = true; blocks = seen.blocks; flashes = seen.flashes }
seen_with kind.Block seen = record { sessions = seen.sessions; blocks = true; flashes = seen.flashes }
seen_with kind.Flash seen = record { sessions = seen.sessions; blocks = seen.blocks; flashes = true }

-- of kids of MEM with one tag the first counts
abbrev pub new_kind : Seen → Option Kind → Option Kind
new_kind seen None = None
new_kind seen (Some k) = if is_seen k seen then None else Some k

abbrev pub members_of : Option Kind → Element → List Place
members_of None e = []
members_of (Some k) e = group_members k e

abbrev pub seen_after : Seen → Option Kind → Seen
seen_after seen None = seen
seen_after seen (Some k) = seen_with k seen

abbrev pub groups_from : ℕ → Seen → List Element → List Place
groups_from i seen [] = []
groups_from i seen (e ∷ es) = under i (members_of (new_kind seen (group_kind e)) e) ++ groups_from (suc i)
    (seen_after seen (new_kind seen (group_kind e))) es

-- what a MEM holds, in document order
abbrev pub groups : Element → List Place
groups e = groups_from 0 (record { sessions = false; blocks = false; flashes = false }) (kids_of e)

abbrev pub carriers_of : Option (ℕ × Element) → List Place
carriers_of None = [] ∷ []
carriers_of (Some p) = under p.0 (groups p.1)

-- the sessions, datablocks and flash data of an ECU-MEM; itself, where it has no MEM
abbrev pub carriers : Element → List Place
carriers e = carriers_of (kid (codes "MEM") e)
