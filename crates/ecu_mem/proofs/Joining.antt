-- The steps of replacing IDs by positions.
use Rattle.std.proofs.Common.{◌≡◌, ◌∙◌, ◌⊎◌, inl, inr, sym, refl, ap, subst, suc, ◌+◌, ◌<◌, length, get_or, drop, drop-cons, add-one, ℕ, List, [], ◌∷◌, ◌++◌, append_assoc, Option, Some, None, Result, Ok, Err}
use Rattle.ecu_mem.specs.declared.types.Session.{Session}
use Rattle.ecu_mem.specs.declared.types.Block.{Block}
use Rattle.ecu_mem.specs.declared.types.Flash.{Flash}
use Rattle.ecu_mem.specs.declared.types.EcuMem.{EcuMem}
use Rattle.ecu_mem.specs.declared.entry.Entry.{Entry}
use Rattle.ecu_mem.specs.declared.entry.Entry.TheVariants as entry
use Rattle.ecu_mem.specs.declared.entry.Target.{Target}
use Rattle.ecu_mem.specs.declared.fault.MemFault.{MemFault}
use Rattle.std.specs.Prelude.{IfOk}
use Rattle.odx_tree.specs.declared.element.Element.{Element}
use Rattle.ecu_mem.specs.declared.fault.MemFault.TheVariants.{NoMemory, Dangling}
use Rattle.ecu_mem.specs.Bounds.{IsWholeCatalogue}
use Rattle.ecu_mem.proofs.Wholes.{catalogue-whole}
use Rattle.ecu_mem.specs.Catalogue.{target_of, entries_of, linked_or_refused, catalogue, and_then, position_or_dangling, block_found, flash_found, positions_of, linked_block, with_session, with_block, with_flash, linked}

-- these positions, and then the rest
abbrev pub joined : List ℕ → Result (List ℕ) MemFault → Result (List ℕ) MemFault
joined xs (Ok ys) = Ok (xs ++ ys)
joined xs (Err e) = Err e

pub joined-nil : (r : Result (List ℕ) MemFault) → joined [] r ≡ r
joined-nil (Ok ys) = refl
joined-nil (Err e) = refl

pub joined-one : (xs : List ℕ) (x : ℕ) (r : Result (List ℕ) MemFault) → joined (xs ++ x ∷ []) r ≡ joined xs (and_then r (λ rest. Ok (x ∷ rest)))
joined-one xs x (Ok ys) = ap Ok (append_assoc xs (x ∷ []) ys)
joined-one xs x (Err e) = refl

pub position-found : (find : List ℕ → Option Target) (id : List ℕ) (ids : List (List ℕ)) (done : List ℕ) (i : ℕ) → Some i ≡ block_found (find id) →
    joined done (positions_of find (id ∷ ids)) ≡ joined (done ++ i ∷ []) (positions_of find ids)
position-found find id ids done i h = rw (← h) (sym (joined-one done i (positions_of find ids)))

-- these lists, and then those of a document
abbrev pub after_lists : List Session → List Block → List Flash → Result EcuMem MemFault → Result EcuMem MemFault
after_lists s b f (Ok m) = Ok (record { sessions = s ++ m.sessions; blocks = b ++ m.blocks; flashes = f ++ m.flashes })
after_lists s b f (Err e) = Err e

pub after_lists-nil : (r : Result EcuMem MemFault) → after_lists [] [] [] r ≡ r
after_lists-nil (Ok m) = refl
after_lists-nil (Err e) = refl

pub session-linked : (s : List Session) (b : List Block) (f : List Flash) (x : Session) (r : Result EcuMem MemFault) → after_lists s b f (and_then r (λ m. Ok (with_session x m))) ≡ after_lists (s ++ x ∷ []) b f r
session-linked s b f x (Ok m) = rw (append_assoc s (x ∷ []) m.sessions) refl
session-linked s b f x (Err e) = refl

pub block-linked : (s : List Session) (b : List Block) (f : List Flash) (x : Block) (r : Result EcuMem MemFault) → after_lists s b f (and_then r (λ m. Ok (with_block x m))) ≡ after_lists s (b ++ x ∷ []) f r
block-linked s b f x (Ok m) = rw (append_assoc b (x ∷ []) m.blocks) refl
block-linked s b f x (Err e) = refl

pub flash-linked : (s : List Session) (b : List Block) (f : List Flash) (x : Flash) (r : Result EcuMem MemFault) → after_lists s b f (and_then r (λ m. Ok (with_flash x m))) ≡ after_lists s b (f ++ x ∷ []) r
flash-linked s b f x (Ok m) = rw (append_assoc f (x ∷ []) m.flashes) refl
flash-linked s b f x (Err e) = refl

positions-same : (find other : List ℕ → Option Target) → ((id : List ℕ) → find id ≡ other id) → (ids : List (List ℕ)) → positions_of find ids ≡ positions_of other ids
positions-same find other h [] = refl
positions-same find other h (id ∷ ids) =
    ap (λ o. and_then (position_or_dangling id (block_found o)) (λ i. and_then (positions_of find ids) (λ is. Ok (i ∷ is)))) (h id)
    ∙ ap (λ r. and_then (position_or_dangling id (block_found (other id))) (λ i. and_then r (λ is. Ok (i ∷ is)))) (positions-same find other h ids)

-- two tables that agree give one document
pub linked-same : (find other : List ℕ → Option Target) → ((id : List ℕ) → find id ≡ other id) → (es : List Entry) → linked find es ≡ linked other es
linked-same find other h [] = refl
linked-same find other h (entry.Session s ids ∷ es) =
    ap (λ r. and_then r (λ is. and_then (linked find es) (λ m. Ok (with_session (record s { blocks = is }) m)))) (positions-same find other h ids)
    ∙ ap (λ r. and_then (positions_of other ids) (λ is. and_then r (λ m. Ok (with_session (record s { blocks = is }) m)))) (linked-same find other h es)
linked-same find other h (entry.Block b id ∷ es) =
    ap (λ o. and_then (and_then (position_or_dangling id (flash_found o)) (λ i. Ok (record b { flash = i }))) (λ x. and_then (linked find es) (λ m. Ok (with_block x m)))) (h id)
    ∙ ap (λ r. and_then (linked_block other b id) (λ x. and_then r (λ m. Ok (with_block x m)))) (linked-same find other h es)
linked-same find other h (entry.Flash f ∷ es) = ap (λ r. and_then r (λ m. Ok (with_flash f m))) (linked-same find other h es)

drop-here : (ids : List (List ℕ)) (i : ℕ) (id : List ℕ) → i < length ids → id ≡ get_or ids i id → drop i ids ≡ id ∷ drop (i + 1) ids
drop-here ids i id h id_is = rw add-one (drop-cons ids i id h ∙ ap (λ (x : List ℕ). x ∷ drop (suc i) ids) (sym id_is))

-- an ID that was found
pub position-next : (find : List ℕ → Option Target) (all ids : List (List ℕ)) (i : ℕ) (id : List ℕ) (done more : List ℕ) (at : ℕ) → i < length ids → id ≡ get_or ids i id → Some at ≡ block_found (find id) → more ≡ done ++ at ∷ [] →
    positions_of find all ≡ joined done (positions_of find (drop i ids)) → positions_of find all ≡ joined more (positions_of find (drop (i + 1) ids))
position-next find all ids i id done more at h id_is found more_is kept =
    kept ∙ (ap (λ l. joined done (positions_of find l)) (drop-here ids i id h id_is) ∙ (position-found find id (drop (i + 1) ids) done at found ∙ ap (λ l. joined l (positions_of find (drop (i + 1) ids))) (sym more_is)))

missing-here : (find : List ℕ → Option Target) (id : List ℕ) (ids : List (List ℕ)) (done : List ℕ) → None ≡ block_found (find id) → joined done (positions_of find (id ∷ ids)) ≡ Err (Dangling id)
missing-here find id ids done h = rw (← h) refl

-- an ID that was not found
pub position-missing : (find : List ℕ → Option Target) (all ids : List (List ℕ)) (i : ℕ) (id : List ℕ) (done : List ℕ) (d : MemFault) → i < length ids → id ≡ get_or ids i id → None ≡ block_found (find id) →
    positions_of find all ≡ joined done (positions_of find (drop i ids)) → (d ≡ NoMemory) ⊎ (d ≡ Dangling id) → (◌≡◌ {A = Result (List ℕ) MemFault} (Err d) (Err NoMemory)) ⊎ (Err d ≡ positions_of find all)
position-missing find all ids i id done d h id_is none kept (inl p) = inl (ap Err p)
position-missing find all ids i id done d h id_is none kept (inr p) =
    inr (ap Err p ∙ sym (kept ∙ (ap (λ l. joined done (positions_of find l)) (drop-here ids i id h id_is) ∙ missing-here find id (drop (i + 1) ids) done none)))

pub block-found : (find : List ℕ → Option Target) (b : Block) (id : List ℕ) (i : ℕ) → Some i ≡ flash_found (find id) → Ok (record b { flash = i }) ≡ linked_block find b id
block-found find b id i h = ap (λ o. and_then (position_or_dangling id o) (λ j. Ok (record b { flash = j }))) h

pub block-missing : (find : List ℕ → Option Target) (b : Block) (id : List ℕ) (d : MemFault) → None ≡ flash_found (find id) → (d ≡ NoMemory) ⊎ (d ≡ Dangling id) → (◌≡◌ {A = Result Block MemFault} (Err d) (Err NoMemory)) ⊎ (Err d ≡ linked_block find b id)
block-missing find b id d h (inl p) = inl (ap Err p)
block-missing find b id d h (inr p) = inr (ap Err p ∙ ap (λ o. and_then (position_or_dangling id o) (λ j. Ok (record b { flash = j }))) h)

-- a value that was given is that of the definition
pub given : {A : Type 0} {x : A} {r : Result A MemFault} → (Ok x ≡ Err NoMemory) ⊎ (Ok x ≡ r) → Ok x ≡ r
given (inl p) = absurd (differ p)
  where
    differ : {A : Type 0} {x : A} → ◌≡◌ {A = Result A MemFault} (Ok x) (Err NoMemory) → ⊥
    differ q = cc
given (inr p) = p

module _ (find : List ℕ → Option Target) (all : Result EcuMem MemFault) (ss : List Session) (bs : List Block) (fs : List Flash) (es rest : List Entry) (kept : all ≡ after_lists ss bs fs (linked find es)) where
  pub session-next : (x : Session) (ids : List (List ℕ)) (is : List ℕ) (more : List Session) → es ≡ entry.Session x ids ∷ rest → Ok is ≡ positions_of find ids → more ≡ ss ++ record x { blocks = is } ∷ [] → all ≡ after_lists more bs fs (linked find rest)
  session-next x ids is more e p m =
      kept ∙ (ap (λ l. after_lists ss bs fs (linked find l)) e
      ∙ (ap (λ r. after_lists ss bs fs (and_then r (λ js. and_then (linked find rest) (λ k. Ok (with_session (record x { blocks = js }) k))))) (sym p)
      ∙ (session-linked ss bs fs (record x { blocks = is }) (linked find rest) ∙ ap (λ l. after_lists l bs fs (linked find rest)) (sym m))))

  pub block-next : (x y : Block) (id : List ℕ) (more : List Block) → es ≡ entry.Block x id ∷ rest → Ok y ≡ linked_block find x id → more ≡ bs ++ y ∷ [] → all ≡ after_lists ss more fs (linked find rest)
  block-next x y id more e p m =
      kept ∙ (ap (λ l. after_lists ss bs fs (linked find l)) e
      ∙ (ap (λ r. after_lists ss bs fs (and_then r (λ z. and_then (linked find rest) (λ k. Ok (with_block z k))))) (sym p)
      ∙ (block-linked ss bs fs y (linked find rest) ∙ ap (λ l. after_lists ss l fs (linked find rest)) (sym m))))

  pub flash-next : (x : Flash) (more : List Flash) → es ≡ entry.Flash x ∷ rest → more ≡ fs ++ x ∷ [] → all ≡ after_lists ss bs more (linked find rest)
  flash-next x more e m =
      kept ∙ (ap (λ l. after_lists ss bs fs (linked find l)) e ∙ (flash-linked ss bs fs x (linked find rest) ∙ ap (λ l. after_lists ss bs l (linked find rest)) (sym m)))

-- a document whose IDs are replaced is the catalogue
pub resolved : (root : Element) (es : List Entry) (find : List ℕ → Option Target) (r : Result EcuMem MemFault) → Ok es ≡ entries_of root → ((id : List ℕ) → find id ≡ target_of es id) →
    (r ≡ Err NoMemory) ⊎ (r ≡ linked find es) → (r ≡ Err NoMemory) ⊎ (r ≡ catalogue root)
resolved root es find r e h (inl p) = inl p
resolved root es find r e h (inr p) = inr (p ∙ (linked-same find (target_of es) h es ∙ ap linked_or_refused e))

-- and so it is whole
pub resolved-whole : (root : Element) (r : Result EcuMem MemFault) → (r ≡ Err NoMemory) ⊎ (r ≡ catalogue root) → IfOk r IsWholeCatalogue
resolved-whole root r (inl p) = subst (λ (q : Result EcuMem MemFault). IfOk q IsWholeCatalogue) (sym p) tt
resolved-whole root r (inr p) = subst (λ (q : Result EcuMem MemFault). IfOk q IsWholeCatalogue) (sym p) (catalogue-whole root)
