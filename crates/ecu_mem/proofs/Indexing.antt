-- The table of IDs with one more entry.
use Rattle.std.proofs.Common.{◌≡◌, ◌∙◌, sym, refl, ap, subst, ℕ, List, [], ◌∷◌, ◌++◌, Bool, true, false, cond, bytes_eq, codes, Option, Some, None, Ok, Err}
use Rattle.std.specs.Prelude.{⊤}
use Rattle.std.proofs.lemmas.Slice.Eq.{bytes_eq-Decides}
use Rattle.odx_tree.specs.declared.element.Element.{Element}
use Rattle.ecu_mem.specs.declared.entry.Entry.{Entry}
use Rattle.ecu_mem.specs.declared.entry.Target.{Target}
use Rattle.ecu_mem.specs.declared.refusal.Refusal.{Refusal}
use Rattle.ecu_mem.specs.Refusals.{Reading, both, read_as, missing}
use Rattle.ecu_mem.specs.Parts.{attribute, attribute_of, has_tag}
use Rattle.ecu_mem.specs.Elements.{session_of, session_in, block_of, block_in, flash_of, flash_in, entry_in}
use Rattle.ecu_mem.specs.Catalogue.{id_of, blocks_with, flashes_with, blocks_after, flashes_after, target_at, target_from, target_of, unique}

pub blocks-append : (n : ℕ) (es : List Entry) (e : Entry) → blocks_after n (es ++ e ∷ []) ≡ blocks_with (blocks_after n es) e
blocks-append n [] e = refl
blocks-append n (x ∷ es) e = blocks-append (blocks_with n x) es e

pub flashes-append : (n : ℕ) (es : List Entry) (e : Entry) → flashes_after n (es ++ e ∷ []) ≡ flashes_with (flashes_after n es) e
flashes-append n [] e = refl
flashes-append n (x ∷ es) e = flashes-append (flashes_with n x) es e

target-kept : (b f : ℕ) (es : List Entry) (e : Entry) (id : List ℕ) (t : Target) → target_from b f es id ≡ Some t → target_from b f (es ++ e ∷ []) id ≡ Some t
target-kept b f [] e id t h = cc
target-kept b f (x ∷ es) e id t h =
    elim (bytes_eq (id_of x) id) as (λ o. cond o (Some (target_at b f x)) (target_from (blocks_with b x) (flashes_with f x) es id) ≡ Some t →
    cond o (Some (target_at b f x)) (target_from (blocks_with b x) (flashes_with f x) (es ++ e ∷ []) id) ≡ Some t)
    [ true ↦ λ p. p | false ↦ λ p. target-kept (blocks_with b x) (flashes_with f x) es e id t p ] h

target-added : (b f : ℕ) (es : List Entry) (e : Entry) (id : List ℕ) → target_from b f es id ≡ None →
    target_from b f (es ++ e ∷ []) id ≡ cond (bytes_eq (id_of e) id) (Some (target_at (blocks_after b es) (flashes_after f es) e)) None
target-added b f [] e id h = refl
target-added b f (x ∷ es) e id h =
    elim (bytes_eq (id_of x) id) as (λ o. cond o (Some (target_at b f x)) (target_from (blocks_with b x) (flashes_with f x) es id) ≡ None →
    cond o (Some (target_at b f x)) (target_from (blocks_with b x) (flashes_with f x) (es ++ e ∷ []) id) ≡
    cond (bytes_eq (id_of e) id) (Some (target_at (blocks_after (blocks_with b x) es) (flashes_after (flashes_with f x) es) e)) None)
    [ true ↦ λ p. cc | false ↦ λ p. target-added (blocks_with b x) (flashes_with f x) es e id p ] h

-- the table with a new ID
pub target-more : (es : List Entry) (e : Entry) (id : List ℕ) → target_of es (id_of e) ≡ None →
    cond (bytes_eq (id_of e) id) (Some (target_at (blocks_after 0 es) (flashes_after 0 es) e)) (target_of es id) ≡ target_of (es ++ e ∷ []) id
target-more es e id fresh = by_test (bytes_eq (id_of e) id) refl
  where
    old : (o : Option Target) → target_of es id ≡ o → bytes_eq (id_of e) id ≡ false → target_of es id ≡ target_of (es ++ e ∷ []) id
    old (Some t) h d = h ∙ sym (target-kept 0 0 es e id t h)
    old None h d = h ∙ sym (target-added 0 0 es e id h ∙ ap (λ o. cond o (Some (target_at (blocks_after 0 es) (flashes_after 0 es) e)) None) d)

    by_test : (o : Bool) → bytes_eq (id_of e) id ≡ o →
        cond (bytes_eq (id_of e) id) (Some (target_at (blocks_after 0 es) (flashes_after 0 es) e)) (target_of es id) ≡ target_of (es ++ e ∷ []) id
    by_test true h =
        let same : id_of e ≡ id = (bytes_eq-Decides (id_of e) id).0 h in
        let none : target_of es id ≡ None = subst (λ (q : List ℕ). target_of es q ≡ None) same fresh in
        rw h (sym (target-added 0 0 es e id none ∙ ap (λ o. cond o (Some (target_at (blocks_after 0 es) (flashes_after 0 es) e)) None) h))
    by_test false h = rw h (old (target_of es id) refl h)

with_id : {B : Type 0} (name : List ℕ) (a : Option (List ℕ)) (rest : Reading B) (f : List ℕ × B → Entry) (x : Entry) → ((p : List ℕ × B) → id_of (f p) ≡ p.0) →
    read_as f (both (attribute_of name a) rest) ≡ Ok x → a ≡ Some (id_of x)
with_id name (Some t) (Ok b) f x named h = let whole : f (t, b) ≡ x = cc in ap Some (sym (ap id_of (sym whole) ∙ named (t, b)))
with_id name (Some t) (Err r) f x named h = cc
with_id name None (Ok b) f x named h = cc
with_id name None (Err r) f x named h = cc

-- an entry has the ID of its element
pub entry-id : (e : Element) (x : Entry) → entry_in e ≡ Ok x → attribute (codes "ID") e ≡ Some (id_of x)
entry-id e x h =
    elim (has_tag (codes "SESSION") e) as (λ o. cond o (session_in e) (cond (has_tag (codes "DATABLOCK") e) (block_in e) (cond (has_tag (codes "FLASHDATA") e) (flash_in e) (Err (missing (codes "MEM"))))) ≡ Ok x → attribute (codes "ID") e ≡ Some (id_of x)) [
      | true ↦ λ p. with_id (codes "ID") (attribute (codes "ID") e) _ session_of x (λ q. refl) p
      | false ↦ elim (has_tag (codes "DATABLOCK") e) as (λ o. cond o (block_in e) (cond (has_tag (codes "FLASHDATA") e) (flash_in e) (Err (missing (codes "MEM")))) ≡ Ok x → attribute (codes "ID") e ≡ Some (id_of x)) [
        | true ↦ λ p. with_id (codes "ID") (attribute (codes "ID") e) _ block_of x (λ q. refl) p
        | false ↦ elim (has_tag (codes "FLASHDATA") e) as (λ o. cond o (flash_in e) (Err (missing (codes "MEM"))) ≡ Ok x → attribute (codes "ID") e ≡ Some (id_of x))
            [ true ↦ λ p. with_id (codes "ID") (attribute (codes "ID") e) _ flash_of x (λ q. refl) p | false ↦ λ p. cc ]
      ]
    ] h

pub both-first : {A B : Type 0} (r : Reading A) (s : Reading B) (x : A) (y : B) → Ok (x, y) ≡ both r s → r ≡ Ok x
both-first {A} {B} (Ok a) (Ok b) x y h = let p : ◌≡◌ {A = A × B} (x, y) (a, b) = cc in let q : x ≡ a = ap (λ (t : A × B). t.0) p in ap Ok (sym q)
both-first (Ok a) (Err f) x y h = cc
both-first (Err g) (Ok b) x y h = cc
both-first (Err g) (Err f) x y h = cc

pub both-second : {A B : Type 0} (r : Reading A) (s : Reading B) (x : A) (y : B) → Ok (x, y) ≡ both r s → s ≡ Ok y
both-second {A} {B} (Ok a) (Ok b) x y h = let p : ◌≡◌ {A = A × B} (x, y) (a, b) = cc in let q : y ≡ b = ap (λ (t : A × B). t.1) p in ap Ok (sym q)
both-second (Ok a) (Err f) x y h = cc
both-second (Err g) (Ok b) x y h = cc
both-second (Err g) (Err f) x y h = cc

-- no earlier entry has the ID of one that is read
pub fresh-id : (es : List Entry) (e : Element) (x : Entry) (u : ⊤) → entry_in e ≡ Ok x → unique es (attribute (codes "ID") e) ≡ Ok u → target_of es (id_of x) ≡ None
fresh-id es e x u h k = none (target_of es (id_of x)) refl
  where
    said : unique es (Some (id_of x)) ≡ Ok u
    said = subst (λ (a : Option (List ℕ)). unique es a ≡ Ok u) (entry-id e x h) k

    none : (o : Option Target) → target_of es (id_of x) ≡ o → target_of es (id_of x) ≡ None
    none None p = p
    none (Some t) p = absurd (differ (rw p at said))
      where
        differ : {r : Refusal} → Err r ≡ Ok u → ⊥
        differ q = cc

-- the table after an insertion
pub indexed-more : (es : List Entry) (e : Entry) (old new : List ℕ → Option Target) (blocks flashes : ℕ) (key : List ℕ) (t : Target) →
    ((id : List ℕ) → old id ≡ target_of es id) → blocks ≡ blocks_after 0 es → flashes ≡ flashes_after 0 es → target_of es (id_of e) ≡ None →
    key ≡ id_of e → t ≡ target_at blocks flashes e → ((id : List ℕ) → new id ≡ cond (bytes_eq key id) (Some t) (old id)) →
    (id : List ℕ) → new id ≡ target_of (es ++ e ∷ []) id
indexed-more es e old new blocks flashes key t o b f fresh k tt' u id =
    let now : t ≡ target_at (blocks_after 0 es) (flashes_after 0 es) e = tt' ∙ ap (λ n. target_at n flashes e) b ∙ ap (λ n. target_at (blocks_after 0 es) n e) f in
    u id ∙ ap (λ q. cond (bytes_eq q id) (Some t) (old id)) k ∙ ap (λ x. cond (bytes_eq (id_of e) id) (Some x) (old id)) now
    ∙ ap (λ x. cond (bytes_eq (id_of e) id) (Some (target_at (blocks_after 0 es) (flashes_after 0 es) e)) x) (o id) ∙ target-more es e id fresh
