-- The catalogue of a drill is read as its sessions, datablocks and flash data.
use Rattle.std.proofs.Common.{◌≡◌, ◌∙◌, ℕ, zero, suc, ◌+◌, ◌<◌, List, [], ◌∷◌, ◌++◌, codes, map, get_or, append_assoc, append-nil, Bool, true, false, ◌&&◌, cond, is_some, Some, Ok, Err, refl, sym, ap, arith}
use Rattle.std.specs.Prelude.{⊤}
use Rattle.std.specs.List.{range_with_len}
use Rattle.std.proofs.lemmas.List.FromFn.{get_or-map-range_with_len, map-range_with_len_more}
use Rattle.bench_gen.specs.Sizes.{numbered}
use Rattle.ecu_mem.specs.Catalogue.{catalogue, entries_of, linked, linked_or_refused, over_places, target_of, unique, with_ecu_mem, with_element}
use Rattle.ecu_mem.specs.Elements.{entry_in}
use Rattle.ecu_mem.specs.Parts.{attribute, has_tag, kid, kids_of}
use Rattle.ecu_mem.specs.Places.{Place, carriers, counting_from, ecu_mem_step, ecu_mems, groups, under}
use Rattle.ecu_mem.specs.Refusals.{Reading, ◌>>=◌, both, in_kid}
use Rattle.ecu_mem.specs.Values.{segment_in}
use Rattle.ecu_mem.specs.declared.types.EcuMem.{EcuMem}
use Rattle.ecu_mem.proofs.Walk.{over-here, over-kid, over-under}
use Rattle.flash_base.specs.Lists.{all_of}
use Rattle.odx_tree.specs.declared.element.Element.{Element, fold_out-Element}
use Rattle.odx_tree.specs.declared.element.Element.TheBlock.{shown-the_row-Element-0}
use Rattle.odx_tree.specs.declared.element.Element.TheOpen.{Element-F}
use Rattle.odx_tree.specs.declared.element.Element.TheViews.{out-Element, out-roll-Element, roll-Element}
use denote.Hole.Carrier.{out, roll, shown, hidden}
use Rattle.drill_law.proofs.Elements.{datablock, flashdata, group, mem, node, root, segment, session}
use Rattle.drill_law.proofs.Entries.{Entry, block_entry, block_is, block_with, flash_at, flash_entry, flash_is, session_entry, session_is, session_with}
use Rattle.drill_law.proofs.Tables.{Rows, holds_of, row}

-- ------ the entries of one group
-- one element more
with_parts : (r : Reading Entry) (u : Reading ⊤) (es : List Entry) (x : Entry) → r ≡ Ok x → u ≡ Ok tt → (both r u >>= λ p. Ok (es ++ p.0 ∷ [])) ≡ Ok (es ++ x ∷ [])
with_parts r u es x a b = rw (a, b) refl

with_read : (e : Element) (es : List Entry) (x : Entry) → entry_in e ≡ Ok x → unique es (attribute (codes "ID") e) ≡ Ok tt → with_element e es ≡ Ok (es ++ x ∷ [])
unfolding with_element
with_read e es x a b = with_parts (entry_in e) (unique es (attribute (codes "ID") e)) es x a b

grown : (front : List Entry) (f : ℕ → Entry) (k : ℕ) → (front ++ map f (range_with_len 0 k)) ++ f k ∷ [] ≡ front ++ map f (range_with_len 0 (suc k))
grown front f k =
    let e : k + 1 ≡ suc k = omega arith in
    append_assoc front (map f (range_with_len 0 k)) (f k ∷ [])
    ∙ ap (λ (es : List Entry). front ++ es) (sym (map-range_with_len_more f 0 k k (omega arith)) ∙ ap (λ (m : ℕ). map f (range_with_len 0 m)) e)

counted_first : (b : Bool) (p : Place) (ps : List Place) → b ≡ true → cond b (p ∷ []) [] ++ ps ≡ p ∷ ps
counted_first b p ps h = rw h refl

went_on : (r : Reading (List Entry)) (es : List Entry) (rest : List Entry → Reading (List Entry)) (i : ℕ) → r ≡ Ok es → (in_kid i r >>= rest) ≡ rest es
went_on r es rest i h = rw h refl

-- kids that count, each of which leads from some entries to the next
pub run : (e : Element) (f : ℕ → Element) (E : ℕ → List Entry) (counts : Element → Bool) (a m : ℕ) → ((k : ℕ) → k < a + m → get_or (kids_of e) k e ≡ f k) → ((k : ℕ) → counts (f k) ≡ true) →
    ((k : ℕ) → k < a + m → with_element (f k) (E k) ≡ Ok (E (suc k))) → over_places with_element e (counting_from a counts (map f (range_with_len a m))) (E a) ≡ Ok (E (a + m))
run e f E counts a zero at counted step = let s : a ≡ a + 0 = omega arith in ap (λ (k : ℕ). Ok (E k)) s
run e f E counts a (suc m) at counted step =
    let s : a + 1 ≡ suc a = omega arith in
    let t : suc a + m ≡ a + suc m = omega arith in
    let low : a < a + suc m = omega arith in
    ap (λ ps. over_places with_element e ps (E a)) (counted_first (counts (f a)) (a ∷ []) (counting_from (suc a) counts (map f (range_with_len (a + 1) m))) (counted a))
    ∙ went_on (with_element (get_or (kids_of e) a e) (E a)) (E (suc a)) (λ es. over_places with_element e (counting_from (suc a) counts (map f (range_with_len (a + 1) m))) es) a
    (ap (λ x. with_element x (E a)) (at a low) ∙ step a low)
    ∙ ap (λ (b : ℕ). over_places with_element e (counting_from (suc a) counts (map f (range_with_len b m))) (E (suc a))) s
    ∙ run e f E counts (suc a) m (λ k h. at k (omega (arith, h, t))) counted (λ k h. step k (omega (arith, h, t)))
    ∙ ap (λ (k : ℕ). Ok (E k)) t

kids_are : (tag : List ℕ) (ks : List Element) → kids_of (node tag ks) ≡ ks
kids_are tag ks = ap (λ (f : Element-F Element). f.kids) (out-roll-Element (record { tag = tag; attrs = []; kids = ks; text = [] }))

-- ------ no ID stands twice
abbrev is_fresh : Reading ⊤ → Bool
is_fresh (Ok x) = true
is_fresh (Err e) = false

fresh_is : (r : Reading ⊤) → is_fresh r ≡ true → r ≡ Ok tt
fresh_is (Ok tt) h = refl
fresh_is (Err e) h = cc

abbrev sessions_to : ℕ → List Entry
sessions_to k = map session_entry (range_with_len 0 k)

abbrev blocks_to : ℕ → ℕ → List Entry
blocks_to size k = map (block_entry size) (range_with_len 0 k)

abbrev flashes_to : ℕ → List Entry
flashes_to k = map flash_entry (range_with_len 0 k)

abbrev with_blocks : ℕ → ℕ → ℕ → List Entry
with_blocks units size k = sessions_to units ++ blocks_to size k

abbrev with_flashes : ℕ → ℕ → ℕ → List Entry
with_flashes units size k = with_blocks units size units ++ flashes_to k

sessions_fresh : all_of (range_with_len 0 12) (λ k. is_fresh (unique (sessions_to k) (Some (numbered (codes "S") k)))) ≡ true
sessions_fresh = refl

abbrev BlocksFresh : ℕ → Type 0
BlocksFresh units = (size : ℕ) → all_of (range_with_len 0 units) (λ k. is_fresh (unique (with_blocks units size k) (Some (numbered (codes "D") k)))) ≡ true

blocks_fresh : Rows BlocksFresh 2 11
blocks_fresh = (
  λ s. refl,
  (
    λ s. refl,
    (
      λ s. refl,
      (
        λ s. refl,
        (
          λ s. refl,
          (
            λ s. refl,
            (λ s. refl, (λ s. refl, (λ s. refl, (λ s. refl, (λ s. refl, tt))))),
          ),
        ),
      ),
    ),
  ),
)

abbrev FlashesFresh : ℕ → Type 0
FlashesFresh units = (size : ℕ) → all_of (range_with_len 0 units) (λ k. is_fresh (unique (with_flashes units size k) (Some (numbered (codes "F") k)))) ≡ true

flashes_fresh : Rows FlashesFresh 2 11
flashes_fresh = (
  λ s. refl,
  (
    λ s. refl,
    (
      λ s. refl,
      (
        λ s. refl,
        (
          λ s. refl,
          (
            λ s. refl,
            (λ s. refl, (λ s. refl, (λ s. refl, (λ s. refl, (λ s. refl, tt))))),
          ),
        ),
      ),
    ),
  ),
)

-- ------ one element
session_next : (k : ℕ) → k < 12 → with_element (session k) (sessions_to k) ≡ Ok (sessions_to (suc k))
unfolding out-Element roll-Element out roll shown hidden shown-the_row-Element-0
session_next k h =
    with_read (session k) (sessions_to k) (session_entry k) (session_is k h)
    (fresh_is (unique (sessions_to k) (Some (numbered (codes "S") k))) (holds_of (λ k. is_fresh (unique (sessions_to k) (Some (numbered (codes "S") k)))) 12 sessions_fresh k h))
    ∙ ap (λ (es : List Entry). Ok es) (grown [] session_entry k)

module _ (j size : ℕ) (low : j < 11) (read : segment_in (segment size) ≡ Ok (65536, size)) where
  abbrev units : ℕ
  units = 2 + j

  block_next : (k : ℕ) → k < units → with_element (datablock size k) (with_blocks units size k) ≡ Ok (with_blocks units size (suc k))
  unfolding out-Element roll-Element out roll shown hidden shown-the_row-Element-0
  block_next k h =
      with_read (datablock size k) (with_blocks units size k) (block_entry size k) (block_is size k (omega (arith, h, low)) read)
      (fresh_is (unique (with_blocks units size k) (Some (numbered (codes "D") k)))
      (holds_of (λ k. is_fresh (unique (with_blocks units size k) (Some (numbered (codes "D") k)))) units (row BlocksFresh 2 11 blocks_fresh j low size) k h))
      ∙ ap (λ (es : List Entry). Ok es) (grown (sessions_to units) (block_entry size) k)

  flash_next : (k : ℕ) → k < units → with_element (flashdata k) (with_flashes units size k) ≡ Ok (with_flashes units size (suc k))
  unfolding out-Element roll-Element out roll shown hidden shown-the_row-Element-0
  flash_next k h =
      with_read (flashdata k) (with_flashes units size k) (flash_entry k) (flash_is k (omega (arith, h, low)))
      (fresh_is (unique (with_flashes units size k) (Some (numbered (codes "F") k)))
      (holds_of (λ k. is_fresh (unique (with_flashes units size k) (Some (numbered (codes "F") k)))) units (row FlashesFresh 2 11 flashes_fresh j low size) k h))
      ∙ ap (λ (es : List Entry). Ok es) (grown (with_blocks units size units) flash_entry k)

  -- ------ the groups, one after another
  abbrev is_session : Element → Bool
  is_session e = has_tag (codes "SESSION") e

  abbrev is_block : Element → Bool
  is_block e = has_tag (codes "DATABLOCK") e && is_some (kid (codes "FLASHDATA-REF") e)

  abbrev is_flash : Element → Bool
  is_flash e = has_tag (codes "FLASHDATA") e

  abbrev sessions : Element
  sessions = group (codes "SESSIONS") session units

  abbrev blocks : Element
  blocks = group (codes "DATABLOCKS") (datablock size) units

  abbrev flashes : Element
  flashes = group (codes "FLASHDATAS") flashdata units

  abbrev session_places : List Place
  session_places = counting_from 0 is_session (kids_of sessions)

  abbrev block_places : List Place
  block_places = counting_from 0 is_block (kids_of blocks)

  abbrev flash_places : List Place
  flash_places = counting_from 0 is_flash (kids_of flashes)

  sessions_run : over_places with_element sessions session_places [] ≡ Ok (sessions_to units)
  unfolding out-Element roll-Element out roll shown hidden shown-the_row-Element-0
  sessions_run =
      let e : 0 + units ≡ units = omega arith in
      ap (λ (ks : List Element). over_places with_element sessions (counting_from 0 is_session ks) []) (kids_are (codes "SESSIONS") (map session (range_with_len 0 units)))
      ∙ run sessions session sessions_to is_session 0 units (λ k h. ap (λ (ks : List Element). get_or ks k sessions) (kids_are (codes "SESSIONS") (map session (range_with_len 0 units))) ∙ get_or-map-range_with_len session 0 units k k sessions (omega (arith, h, e)) (omega arith)) (λ k. refl) (λ k h. session_next k (omega (arith, h, e, low)))
      ∙ ap (λ (m : ℕ). Ok (sessions_to m)) e

  blocks_run : over_places with_element blocks block_places (sessions_to units) ≡ Ok (with_blocks units size units)
  unfolding out-Element roll-Element out roll shown hidden shown-the_row-Element-0
  blocks_run =
      let e : 0 + units ≡ units = omega arith in
      ap (λ (es : List Entry). over_places with_element blocks block_places es) (sym (append-nil (sessions_to units)))
      ∙ ap (λ (ks : List Element). over_places with_element blocks (counting_from 0 is_block ks) (sessions_to units ++ [])) (kids_are (codes "DATABLOCKS") (map (datablock size) (range_with_len 0 units)))
      ∙ run blocks (datablock size) (with_blocks units size) is_block 0 units (λ k h. ap (λ (ks : List Element). get_or ks k blocks) (kids_are (codes "DATABLOCKS") (map (datablock size) (range_with_len 0 units))) ∙ get_or-map-range_with_len (datablock size) 0 units k k blocks (omega (arith, h, e)) (omega arith)) (λ k. refl) (λ k h. block_next k (omega (arith, h, e)))
      ∙ ap (λ (m : ℕ). Ok (with_blocks units size m)) e

  flashes_run : over_places with_element flashes flash_places (with_blocks units size units) ≡ Ok (with_flashes units size units)
  unfolding out-Element roll-Element out roll shown hidden shown-the_row-Element-0
  flashes_run =
      let e : 0 + units ≡ units = omega arith in
      ap (λ (es : List Entry). over_places with_element flashes flash_places es) (sym (append-nil (with_blocks units size units)))
      ∙ ap (λ (ks : List Element). over_places with_element flashes (counting_from 0 is_flash ks) (with_blocks units size units ++ [])) (kids_are (codes "FLASHDATAS") (map flashdata (range_with_len 0 units)))
      ∙ run flashes flashdata (with_flashes units size) is_flash 0 units (λ k h. ap (λ (ks : List Element). get_or ks k flashes) (kids_are (codes "FLASHDATAS") (map flashdata (range_with_len 0 units))) ∙ get_or-map-range_with_len flashdata 0 units k k flashes (omega (arith, h, e)) (omega arith)) (λ k. refl) (λ k h. flash_next k (omega (arith, h, e)))
      ∙ ap (λ (m : ℕ). Ok (with_flashes units size m)) e

  -- ------ the whole
  all_groups : groups (mem units size) ≡ under 0 session_places ++ (under 1 block_places ++ (under 2 flash_places ++ []))
  unfolding out-Element roll-Element out roll shown hidden shown-the_row-Element-0
  all_groups = refl

  mem_run : over_places with_element (mem units size) (groups (mem units size)) [] ≡ Ok (with_flashes units size units)
  unfolding out-Element roll-Element out roll shown hidden shown-the_row-Element-0
  mem_run =
      let m : Element = mem units size in
      ap (λ ps. over_places with_element m ps []) all_groups
      ∙ over-under with_element m 0 session_places (under 1 block_places ++ (under 2 flash_places ++ [])) []
      ∙ went_on (over_places with_element sessions session_places []) (sessions_to units) (λ t. over_places with_element m (under 1 block_places ++ (under 2 flash_places ++ [])) t) 0 sessions_run
      ∙ over-under with_element m 1 block_places (under 2 flash_places ++ []) (sessions_to units)
      ∙ went_on (over_places with_element blocks block_places (sessions_to units)) (with_blocks units size units) (λ t. over_places with_element m (under 2 flash_places ++ []) t) 1 blocks_run
      ∙ over-under with_element m 2 flash_places [] (with_blocks units size units)
      ∙ went_on (over_places with_element flashes flash_places (with_blocks units size units)) (with_flashes units size units) (λ t. over_places with_element m [] t) 2 flashes_run

  kid_read : (r : Reading (List Entry)) (es : List Entry) → r ≡ Ok es → in_kid 0 r ≡ Ok es
  kid_read r es h = rw h refl

  root_carriers : carriers (root units size) ≡ under 0 (groups (mem units size))
  unfolding out-Element roll-Element out roll shown hidden shown-the_row-Element-0
  root_carriers = refl

  root_mems : ecu_mems (root units size) ≡ [] ∷ []
  unfolding out-Element roll-Element out roll shown hidden shown-the_row-Element-0
  root_mems = fold_out-Element (List Place) ecu_mem_step (root units size)

  root_run : with_ecu_mem (root units size) [] ≡ Ok (with_flashes units size units)
  unfolding with_ecu_mem out-Element roll-Element out roll shown hidden shown-the_row-Element-0
  root_run =
      ap (λ ps. over_places with_element (root units size) ps []) root_carriers
      ∙ over-kid with_element (root units size) 0 (groups (mem units size)) []
      ∙ kid_read (over_places with_element (mem units size) (groups (mem units size)) []) (with_flashes units size units) mem_run

  entries_are : entries_of (root units size) ≡ Ok (with_flashes units size units)
  entries_are =
      ap (λ ps. over_places with_ecu_mem (root units size) ps []) root_mems ∙ over-here with_ecu_mem (root units size) [] ∙ root_run

-- ------ IDs as positions
abbrev pub session_at : ℕ → Rattle.ecu_mem.specs.declared.types.Session.Session
session_at k = session_with (k ∷ []) k

abbrev pub block_at : ℕ → ℕ → Rattle.ecu_mem.specs.declared.types.Block.Block
block_at size k = block_with k size k

abbrev pub mem_of : ℕ → ℕ → EcuMem
mem_of units size = record {
  sessions = map session_at (range_with_len 0 units);
  blocks = map (block_at size) (range_with_len 0 units);
  flashes = map flash_at (range_with_len 0 units);
}

abbrev IsLinked : ℕ → Type 0
IsLinked units = (size : ℕ) → linked (target_of (with_flashes units size units)) (with_flashes units size units) ≡ Ok (mem_of units size)

all_linked : Rows IsLinked 2 11
all_linked = (
  λ s. refl,
  (
    λ s. refl,
    (
      λ s. refl,
      (
        λ s. refl,
        (
          λ s. refl,
          (
            λ s. refl,
            (λ s. refl, (λ s. refl, (λ s. refl, (λ s. refl, (λ s. refl, tt))))),
          ),
        ),
      ),
    ),
  ),
)

pub catalogue_is : (j size : ℕ) → j < 11 → segment_in (segment size) ≡ Ok (65536, size) → catalogue (root (2 + j) size) ≡ Ok (mem_of (2 + j) size)
catalogue_is j size low read = ap linked_or_refused (entries_are j size low read) ∙ row IsLinked 2 11 all_linked j low size
