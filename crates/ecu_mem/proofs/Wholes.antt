-- A document that is resolved is whole: positions, ranges and offsets are within their bounds, and no ID stands twice.
use Rattle.std.proofs.Common.{◌≡◌, ◌∙◌, sym, refl, ap, subst, ℕ, suc, ◌+◌, ◌<◌, ◌≤◌, List, [], ◌∷◌, ◌++◌, map, length, Bool, true, false, cond, bytes_eq, codes, Option, Some, None, Result, Ok, Err, arith}
use Rattle.std.specs.Prelude.{⊤, IfOk}
use Rattle.std.proofs.lemmas.Slice.Eq.{bytes_eq-Decides}
use Rattle.std.proofs.lemmas.Result.{IfOk-weaker}
use Rattle.flash_base.specs.Lists.{Each}
use Rattle.odx_tree.specs.declared.element.Element.{Element}
use Rattle.ecu_mem.specs.declared.types.Session.{Session}
use Rattle.ecu_mem.specs.declared.types.Block.{Block}
use Rattle.ecu_mem.specs.declared.types.Flash.{Flash}
use Rattle.ecu_mem.specs.declared.types.EcuMem.{EcuMem}
use Rattle.ecu_mem.specs.declared.entry.Entry.{Entry}
use Rattle.ecu_mem.specs.declared.entry.Entry.TheVariants as entry
use Rattle.ecu_mem.specs.declared.entry.Target.{Target}
use Rattle.ecu_mem.specs.declared.fault.MemFault.{MemFault}
use Rattle.ecu_mem.specs.Refusals.{Reading, ◌>>=◌, both}
use Rattle.ecu_mem.specs.Parts.{attribute}
use Rattle.ecu_mem.specs.Elements.{entry_in}
use Rattle.ecu_mem.specs.Places.{Place, element_at, carriers, ecu_mems}
use Rattle.ecu_mem.specs.Catalogue.{id_of, blocks_with, flashes_with, blocks_after, flashes_after, target_at, target_from, target_of, unique, with_element, in_place, over_places, with_ecu_mem, entries_of, block_found, flash_found, and_then, position_or_dangling, positions_of, linked_block, with_session, with_block, with_flash, linked, linked_or_refused, catalogue}
use Rattle.ecu_mem.specs.Bounds.{IsSessionAmong, IsBlockAmong, one_if, times, ids_of, IsWholeCatalogue}
use Rattle.ecu_mem.proofs.Indexing.{fresh-id}
use Rattle.ecu_mem.proofs.Ranges.{bind-gives, kid-gives, IsGood, entry-gives}

pub times-append : (id : List ℕ) (xs ys : List (List ℕ)) → times id (xs ++ ys) ≡ times id xs + times id ys
times-append id [] ys = omega arith
times-append id (x ∷ xs) ys = let rest : times id (xs ++ ys) ≡ times id xs + times id ys = times-append id xs ys in omega arith

-- what is not in the table stands in no entry
none-times : (b f : ℕ) (es : List Entry) (id : List ℕ) → target_from b f es id ≡ None → times id (map id_of es) ≡ 0
none-times b f [] id h = refl
none-times b f (x ∷ es) id h =
    elim (bytes_eq (id_of x) id) as (λ o. cond o (Some (target_at b f x)) (target_from (blocks_with b x) (flashes_with f x) es id) ≡ None → one_if o + times id (map id_of es) ≡ 0)
    [ true ↦ λ p. absurd (differ p) | false ↦ λ p. let rest : times id (map id_of es) ≡ 0 = none-times (blocks_with b x) (flashes_with f x) es id p in omega arith ] h
  where
    differ : {t : Target} → Some t ≡ None → ⊥
    differ q = cc

map-append : (es : List Entry) (x : Entry) → map id_of (es ++ x ∷ []) ≡ map id_of es ++ id_of x ∷ []
map-append [] x = refl
map-append (e ∷ es) x = ap (λ (r : List (List ℕ)). id_of e ∷ r) (map-append es x)

each-append : (es : List Entry) (x : Entry) → Each IsGood es → IsGood x → Each IsGood (es ++ x ∷ [])
each-append [] x h g = (g, tt)
each-append (e ∷ es) x h g = (h.0, each-append es x h.1 g)

-- what is kept of the entries that were read so far
pub record AreGood (es : List Entry) : Type 0 where
  pub good : Each IsGood es
  pub once : (id : List ℕ) → times id (map id_of es) ≤ 1

once-more : (es : List Entry) (x : Entry) → ((id : List ℕ) → times id (map id_of es) ≤ 1) → target_of es (id_of x) ≡ None → (id : List ℕ) → times id (map id_of (es ++ x ∷ [])) ≤ 1
once-more es x h fresh id =
    let split : times id (map id_of (es ++ x ∷ [])) ≡ times id (map id_of es) + (one_if (bytes_eq (id_of x) id) + 0) = ap (times id) (map-append es x) ∙ times-append id (map id_of es) (id_of x ∷ []) in
    by_test (bytes_eq (id_of x) id) refl split
  where
    by_test : (o : Bool) → bytes_eq (id_of x) id ≡ o → times id (map id_of (es ++ x ∷ [])) ≡ times id (map id_of es) + (one_if o + 0) → times id (map id_of (es ++ x ∷ [])) ≤ 1
    by_test true e s =
        let same : id_of x ≡ id = (bytes_eq-Decides (id_of x) id).0 e in
        let none : target_of es id ≡ None = subst (λ (q : List ℕ). target_of es q ≡ None) same fresh in
        let zero_times : times id (map id_of es) ≡ 0 = none-times 0 0 es id none in
        omega arith
    by_test false e s = let before : times id (map id_of es) ≤ 1 = h id in omega arith

entry-good : (e : Element) (es : List Entry) → AreGood es → IfOk (with_element e es) AreGood
unfolding with_element
entry-good e es h = go (entry_in e) (unique es (attribute (codes "ID") e)) refl refl (entry-gives e)
  where
    go : (r : Reading Entry) (u : Reading ⊤) → entry_in e ≡ r → unique es (attribute (codes "ID") e) ≡ u → IfOk r IsGood → IfOk (both r u >>= λ p. Ok (es ++ p.0 ∷ [])) AreGood
    go (Ok x) (Ok t) p q g = record { good = each-append es x h.good g; once = once-more es x h.once (fresh-id es e x t p q) }
    go (Ok x) (Err f) p q g = tt
    go (Err f) (Ok t) p q g = tt
    go (Err f) (Err k) p q g = tt

place-gives : (P : List Entry → Type 0) (p : Place) (r : Reading (List Entry)) → IfOk r P → IfOk (in_place p r) P
place-gives P [] r h = h
place-gives P (i ∷ p) r h = kid-gives P i (in_place p r) (place-gives P p r h)

over-gives : (P : List Entry → Type 0) (step : Element → List Entry → Reading (List Entry)) → ((e : Element) (es : List Entry) → P es → IfOk (step e es) P) →
    (root : Element) (ps : List Place) (es : List Entry) → P es → IfOk (over_places step root ps es) P
over-gives P step h root [] es p = p
over-gives P step h root (q ∷ qs) es p =
    bind-gives P P (in_place q (step (element_at root q) es)) (λ more. over_places step root qs more) (place-gives P q (step (element_at root q) es) (h (element_at root q) es p)) (λ more k. over-gives P step h root qs more k)

ecu_mem-good : (e : Element) (es : List Entry) → AreGood es → IfOk (with_ecu_mem e es) AreGood
unfolding with_ecu_mem
ecu_mem-good e es h = over-gives AreGood with_element entry-good e (carriers e) es h

entries-good : (root : Element) → IfOk (entries_of root) AreGood
entries-good root = over-gives AreGood with_ecu_mem ecu_mem-good root (ecu_mems root) [] (record { good = tt; once = λ id. omega arith })

blocks-grow : (n : ℕ) (es : List Entry) → n ≤ blocks_after n es
blocks-grow n [] = omega arith
blocks-grow n (entry.Session s refs ∷ es) = blocks-grow n es
blocks-grow n (entry.Block b ref ∷ es) = let rest : n + 1 ≤ blocks_after (n + 1) es = blocks-grow (n + 1) es in omega arith
blocks-grow n (entry.Flash f ∷ es) = blocks-grow n es

flashes-grow : (n : ℕ) (es : List Entry) → n ≤ flashes_after n es
flashes-grow n [] = omega arith
flashes-grow n (entry.Session s refs ∷ es) = flashes-grow n es
flashes-grow n (entry.Block b ref ∷ es) = flashes-grow n es
flashes-grow n (entry.Flash f ∷ es) = let rest : n + 1 ≤ flashes_after (n + 1) es = flashes-grow (n + 1) es in omega arith

block-here : (b f : ℕ) (x : Entry) (es : List Entry) (i : ℕ) → block_found (Some (target_at b f x)) ≡ Some i → i < blocks_after (blocks_with b x) es
block-here b f (entry.Session s refs) es i h = cc
block-here b f (entry.Block k ref) es i h = let same : b ≡ i = cc in let more : b + 1 ≤ blocks_after (b + 1) es = blocks-grow (b + 1) es in omega arith
block-here b f (entry.Flash k) es i h = cc

block-below : (b f : ℕ) (es : List Entry) (id : List ℕ) (i : ℕ) → block_found (target_from b f es id) ≡ Some i → i < blocks_after b es
block-below b f [] id i h = cc
block-below b f (x ∷ es) id i h =
    elim (bytes_eq (id_of x) id) as (λ o. block_found (cond o (Some (target_at b f x)) (target_from (blocks_with b x) (flashes_with f x) es id)) ≡ Some i → i < blocks_after (blocks_with b x) es)
    [ true ↦ λ p. block-here b f x es i p | false ↦ λ p. block-below (blocks_with b x) (flashes_with f x) es id i p ] h

flash-here : (b f : ℕ) (x : Entry) (es : List Entry) (i : ℕ) → flash_found (Some (target_at b f x)) ≡ Some i → i < flashes_after (flashes_with f x) es
flash-here b f (entry.Session s refs) es i h = cc
flash-here b f (entry.Block k ref) es i h = cc
flash-here b f (entry.Flash k) es i h = let same : f ≡ i = cc in let more : f + 1 ≤ flashes_after (f + 1) es = flashes-grow (f + 1) es in omega arith

flash-below : (b f : ℕ) (es : List Entry) (id : List ℕ) (i : ℕ) → flash_found (target_from b f es id) ≡ Some i → i < flashes_after f es
flash-below b f [] id i h = cc
flash-below b f (x ∷ es) id i h =
    elim (bytes_eq (id_of x) id) as (λ o. flash_found (cond o (Some (target_at b f x)) (target_from (blocks_with b x) (flashes_with f x) es id)) ≡ Some i → i < flashes_after (flashes_with f x) es)
    [ true ↦ λ p. flash-here b f x es i p | false ↦ λ p. flash-below (blocks_with b x) (flashes_with f x) es id i p ] h

then-gives : {A B : Type 0} (P : A → Type 0) (Q : B → Type 0) (r : Result A MemFault) (f : A → Result B MemFault) → IfOk r P → ((x : A) → P x → IfOk (f x) Q) → IfOk (and_then r f) Q
then-gives P Q (Ok x) f p h = h x p
then-gives P Q (Err e) f p h = tt

position-gives : (id : List ℕ) (n : ℕ) (o : Option ℕ) → ((i : ℕ) → o ≡ Some i → i < n) → IfOk (position_or_dangling id o) (λ i. i < n)
position-gives id n None h = tt
position-gives id n (Some i) h = h i refl

module _ (find : List ℕ → Option Target) (nb nf : ℕ) (some_block : (id : List ℕ) (i : ℕ) → block_found (find id) ≡ Some i → i < nb) (some_flash : (id : List ℕ) (i : ℕ) → flash_found (find id) ≡ Some i → i < nf) where
  positions-give : (ids : List (List ℕ)) → IfOk (positions_of find ids) (Each (λ i. i < nb))
  positions-give [] = tt
  positions-give (id ∷ ids) =
      then-gives (λ i. i < nb) (Each (λ i. i < nb)) (position_or_dangling id (block_found (find id))) (λ i. and_then (positions_of find ids) (λ is. Ok (i ∷ is))) (position-gives id nb (block_found (find id)) (some_block id))
      (λ i p. then-gives (Each (λ j. j < nb)) (Each (λ j. j < nb)) (positions_of find ids) (λ is. Ok (i ∷ is)) (positions-give ids) (λ is q. (p, q)))

  block-gives : (b : Block) (id ref : List ℕ) → IsGood (entry.Block b ref) → IfOk (linked_block find b id) (λ x. IsBlockAmong nf x × (x.id ≡ b.id))
  block-gives b id ref g =
      then-gives (λ i. i < nf) (λ x. IsBlockAmong nf x × (x.id ≡ b.id)) (position_or_dangling id (flash_found (find id))) (λ i. Ok (record b { flash = i })) (position-gives id nf (flash_found (find id)) (some_flash id))
      (λ i p. (record { position = p; filters = g.0; segments = g.1.0; offset = g.1.1.0; own = g.1.1.1 }, refl))

-- what is kept of the document of these entries
record IsOf (nb nf : ℕ) (es : List Entry) (m : EcuMem) : Type 0 where
  sessions : Each (IsSessionAmong nb) m.sessions
  blocks : Each (IsBlockAmong nf) m.blocks
  block_count : (n : ℕ) → blocks_after n es ≡ n + length m.blocks
  flash_count : (n : ℕ) → flashes_after n es ≡ n + length m.flashes
  same : (id : List ℕ) → times id (ids_of m) ≡ times id (map id_of es)

three : (id : List ℕ) (ss : List Session) (bs : List Block) (fs : List Flash) →
    times id (ids_of (record { sessions = ss; blocks = bs; flashes = fs })) ≡ times id (map (λ (s : Session). s.id) ss) + (times id (map (λ (b : Block). b.id) bs) + times id (map (λ (f : Flash). f.id) fs))
three id ss bs fs =
    let a : times id (map (λ (s : Session). s.id) ss ++ (map (λ (b : Block). b.id) bs ++ map (λ (f : Flash). f.id) fs)) ≡ times id (map (λ (s : Session). s.id) ss) + times id (map (λ (b : Block). b.id) bs ++ map (λ (f : Flash). f.id) fs)
    = times-append id (map (λ (s : Session). s.id) ss) (map (λ (b : Block). b.id) bs ++ map (λ (f : Flash). f.id) fs) in
    a ∙ ap (λ n. times id (map (λ (s : Session). s.id) ss) + n) (times-append id (map (λ (b : Block). b.id) bs) (map (λ (f : Flash). f.id) fs))

second : (s x b f : ℕ) → s + ((x + b) + f) ≡ x + (s + (b + f))
second s x b f = omega arith

third : (s b x f : ℕ) → s + (b + (x + f)) ≡ x + (s + (b + f))
third s b x f = omega arith

session-kept : (nb nf : ℕ) (s : Session) (refs : List (List ℕ)) (is : List ℕ) (es : List Entry) (m : EcuMem) → IsGood (entry.Session s refs) → Each (λ i. i < nb) is → IsOf nb nf es m →
    IsOf nb nf (entry.Session s refs ∷ es) (with_session (record s { blocks = is }) m)
session-kept nb nf s refs is es m g p h = record {
  sessions = (record { positions = p; idents = g.0; checks = g.1 }, h.sessions);
  blocks = h.blocks;
  block_count = h.block_count;
  flash_count = h.flash_count;
  same = λ id. ap (λ n. one_if (bytes_eq s.id id) + n) (h.same id);
}

block-kept : (nb nf : ℕ) (b x : Block) (ref : List ℕ) (es : List Entry) (m : EcuMem) → IsBlockAmong nf x → x.id ≡ b.id → IsOf nb nf es m → IsOf nb nf (entry.Block b ref ∷ es) (with_block x m)
block-kept nb nf b x ref es m g e h = record {
  sessions = h.sessions;
  blocks = (g, h.blocks);
  block_count = λ n. let rest : blocks_after (n + 1) es ≡ n + 1 + length m.blocks = h.block_count (n + 1) in more n rest;
  flash_count = h.flash_count;
  same = λ id. counted id;
}
  where
    more : (n : ℕ) → blocks_after (n + 1) es ≡ n + 1 + length m.blocks → blocks_after (n + 1) es ≡ n + suc (length m.blocks)
    more n r = omega arith

    counted : (id : List ℕ) → times id (ids_of (with_block x m)) ≡ times id (map id_of (entry.Block b ref ∷ es))
    counted id =
        three id m.sessions (x ∷ m.blocks) m.flashes
        ∙ second (times id (map (λ (s : Session). s.id) m.sessions)) (one_if (bytes_eq x.id id)) (times id (map (λ (b : Block). b.id) m.blocks)) (times id (map (λ (f : Flash). f.id) m.flashes))
        ∙ ap (λ n. one_if (bytes_eq x.id id) + n) (sym (three id m.sessions m.blocks m.flashes) ∙ h.same id)
        ∙ ap (λ (q : List ℕ). one_if (bytes_eq q id) + times id (map id_of es)) e

flash-kept : (nb nf : ℕ) (f : Flash) (es : List Entry) (m : EcuMem) → IsOf nb nf es m → IsOf nb nf (entry.Flash f ∷ es) (with_flash f m)
flash-kept nb nf f es m h = record {
  sessions = h.sessions;
  blocks = h.blocks;
  block_count = h.block_count;
  flash_count = λ n. let rest : flashes_after (n + 1) es ≡ n + 1 + length m.flashes = h.flash_count (n + 1) in more n rest;
  same = λ id. counted id;
}
  where
    more : (n : ℕ) → flashes_after (n + 1) es ≡ n + 1 + length m.flashes → flashes_after (n + 1) es ≡ n + suc (length m.flashes)
    more n r = omega arith

    counted : (id : List ℕ) → times id (ids_of (with_flash f m)) ≡ times id (map id_of (entry.Flash f ∷ es))
    counted id =
        three id m.sessions m.blocks (f ∷ m.flashes)
        ∙ third (times id (map (λ (s : Session). s.id) m.sessions)) (times id (map (λ (b : Block). b.id) m.blocks)) (one_if (bytes_eq f.id id)) (times id (map (λ (f : Flash). f.id) m.flashes))
        ∙ ap (λ n. one_if (bytes_eq f.id id) + n) (sym (three id m.sessions m.blocks m.flashes) ∙ h.same id)

linked-gives : (find : List ℕ → Option Target) (nb nf : ℕ) (some_block : (id : List ℕ) (i : ℕ) → block_found (find id) ≡ Some i → i < nb) (some_flash : (id : List ℕ) (i : ℕ) → flash_found (find id) ≡ Some i → i < nf)
    (es : List Entry) → Each IsGood es → IfOk (linked find es) (IsOf nb nf es)
linked-gives find nb nf sb sf [] g = record { sessions = tt; blocks = tt; block_count = λ n. omega arith; flash_count = λ n. omega arith; same = λ id. refl }
linked-gives find nb nf sb sf (entry.Session s ids ∷ es) g =
    then-gives (Each (λ i. i < nb)) (IsOf nb nf (entry.Session s ids ∷ es)) (positions_of find ids) (λ is. and_then (linked find es) (λ m. Ok (with_session (record s { blocks = is }) m))) (positions-give find nb nf sb sf ids)
    (λ is p. then-gives (IsOf nb nf es) (IsOf nb nf (entry.Session s ids ∷ es)) (linked find es) (λ m. Ok (with_session (record s { blocks = is }) m)) (linked-gives find nb nf sb sf es g.1)
    (λ m h. session-kept nb nf s ids is es m g.0 p h))
linked-gives find nb nf sb sf (entry.Block b id ∷ es) g =
    then-gives (λ x. IsBlockAmong nf x × (x.id ≡ b.id)) (IsOf nb nf (entry.Block b id ∷ es)) (linked_block find b id) (λ x. and_then (linked find es) (λ m. Ok (with_block x m))) (block-gives find nb nf sb sf b id id g.0)
    (λ x p. then-gives (IsOf nb nf es) (IsOf nb nf (entry.Block b id ∷ es)) (linked find es) (λ m. Ok (with_block x m)) (linked-gives find nb nf sb sf es g.1)
    (λ m h. block-kept nb nf b x id es m p.0 p.1 h))
linked-gives find nb nf sb sf (entry.Flash f ∷ es) g =
    then-gives (IsOf nb nf es) (IsOf nb nf (entry.Flash f ∷ es)) (linked find es) (λ m. Ok (with_flash f m)) (linked-gives find nb nf sb sf es g.1) (λ m h. flash-kept nb nf f es m h)

whole : (es : List Entry) (m : EcuMem) → AreGood es → IsOf (blocks_after 0 es) (flashes_after 0 es) es m → IsWholeCatalogue m
whole es m g h =
    let blocks : blocks_after 0 es ≡ length m.blocks = counted (h.block_count 0) in
    let flashes : flashes_after 0 es ≡ length m.flashes = counted (h.flash_count 0) in
    record {
      sessions = subst (λ n. Each (IsSessionAmong n) m.sessions) blocks h.sessions;
      blocks = subst (λ n. Each (IsBlockAmong n) m.blocks) flashes h.blocks;
      once = λ id. subst (λ n. n ≤ 1) (sym (h.same id)) (g.once id);
    }
  where
    counted : {a b : ℕ} → a ≡ 0 + b → a ≡ b
    counted e = omega arith

-- every document that a tree is resolved to
pub catalogue-whole : (root : Element) → IfOk (catalogue root) IsWholeCatalogue
catalogue-whole root = go (entries_of root) (entries-good root)
  where
    go : (r : Reading (List Entry)) → IfOk r AreGood → IfOk (linked_or_refused r) IsWholeCatalogue
    go (Ok es) g = IfOk-weaker (linked (target_of es) es) (IsOf (blocks_after 0 es) (flashes_after 0 es) es) IsWholeCatalogue (λ m h. whole es m g h)
        (linked-gives (target_of es) (blocks_after 0 es) (flashes_after 0 es) (λ id i h. block-below 0 0 es id i h) (λ id i h. flash-below 0 0 es id i h) es g.good)
    go (Err f) g = tt
