-- Numbers and sizes of segments.
use Rattle.std.proofs.Common.{◌≡◌, ◌∙◌, sym, ap, ◌+◌, ◌≤◌, ℕ, List, [], ◌∷◌, ◌++◌, length, length-append, arith, subst, Option, Result, Ok, Err}
use Rattle.flash_base.specs.Lists.{Each}
use Rattle.ecu_mem.specs.declared.types.Block.{Block}
use Rattle.ecu_mem.specs.declared.types.EcuMem.{EcuMem}
use Rattle.session_image.specs.Kept.{IsPlaced, sizes}
use Rattle.session_image.specs.Pieces.{◌>>=◌, size_of, block_pieces, all_pieces}
use Rattle.session_image.specs.declared.pieces.Piece.{Piece}
use Rattle.session_image.specs.declared.types.ImageFault.{ImageFault}
use Rattle.session_image.proofs.Joins.{joined, joined_more}

pub each-append : {A : Type 0} (P : A → Type 0) (xs ys : List A) → Each P xs → Each P ys → Each P (xs ++ ys)
each-append P [] ys h k = k
each-append P (x ∷ xs) ys h k = (h.0, each-append P xs ys h.1 k)

pub size_of-append : (ps qs : List Piece) → size_of (ps ++ qs) ≡ size_of ps + size_of qs
size_of-append [] qs = let e : size_of qs ≡ 0 + size_of qs = omega arith in e
size_of-append (p ∷ ps) qs = let e = size_of-append ps qs in omega (arith, e)

-- one more at the end
pub each_pushed : {A : Type 0} (P : A → Type 0) (xs ys : List A) (y : A) → ys ≡ xs ++ y ∷ [] → Each P xs → P y → Each P ys
each_pushed P xs ys y is h one = subst (Each P) (sym is) (each-append P xs (y ∷ []) h (one, tt))

pub size_of_pushed : (ps qs : List Piece) (p : Piece) → qs ≡ ps ++ p ∷ [] → size_of qs ≡ size_of ps + length p.body
size_of_pushed ps qs p is = let e = size_of-append ps (p ∷ []) in let f : size_of qs ≡ size_of (ps ++ p ∷ []) = ap size_of is in omega (arith, e, f)

sizes-append : (xs ys : List (ℕ × List ℕ)) → sizes (xs ++ ys) ≡ sizes xs + sizes ys
sizes-append [] ys = let e : sizes ys ≡ 0 + sizes ys = omega arith in e
sizes-append (x ∷ xs) ys = let e = sizes-append xs ys in omega (arith, e)

pub sizes_pushed : (xs ys : List (ℕ × List ℕ)) (y : ℕ × List ℕ) → ys ≡ xs ++ y ∷ [] → sizes ys ≡ sizes xs + length y.1
sizes_pushed xs ys y is = let e = sizes-append xs (y ∷ []) in let f : sizes ys ≡ sizes (xs ++ y ∷ []) = ap sizes is in omega (arith, e, f)

-- each has a byte, so there are not more segments than bytes
pub as_many : (ps : List Piece) → Each IsPlaced ps → length ps ≤ size_of ps
as_many [] h = omega arith
as_many (p ∷ ps) h = let more : length ps ≤ size_of ps = as_many ps h.1 in let one : 1 ≤ length p.body = h.0.some in omega arith

pub blocks_next : (m : EcuMem) (files : List (List ℕ × List ℕ)) (fill : Option ℕ) (b : Block) (bs : List Block) (done ps : List Piece) (size : ℕ) (r : Result (List Piece) ImageFault) →
    block_pieces m files fill (length done) size b ≡ Ok ps → r ≡ joined done (all_pieces m files fill (length done) size (b ∷ bs))
    → r ≡ joined (done ++ ps) (all_pieces m files fill (length (done ++ ps)) (size + size_of ps) bs)
blocks_next m files fill b bs done ps size r ok before =
    before
    ∙ ap (λ g. joined done (g >>= λ ps. all_pieces m files fill (length done + length ps) (size + size_of ps) bs >>= λ rest. Ok (ps ++ rest))) ok
    ∙ sym (joined_more done ps (all_pieces m files fill (length done + length ps) (size + size_of ps) bs))
    ∙ ap (λ n. joined (done ++ ps) (all_pieces m files fill n (size + size_of ps) bs)) (sym (length-append done ps))

pub blocks_stopped : (m : EcuMem) (files : List (List ℕ × List ℕ)) (fill : Option ℕ) (b : Block) (bs : List Block) (done : List Piece) (size : ℕ) (e : ImageFault) (r : Result (List Piece) ImageFault) →
    block_pieces m files fill (length done) size b ≡ Err e → r ≡ joined done (all_pieces m files fill (length done) size (b ∷ bs)) → r ≡ Err e
blocks_stopped m files fill b bs done size e r err before =
    before ∙ ap (λ g. joined done (g >>= λ ps. all_pieces m files fill (length done + length ps) (size + size_of ps) bs >>= λ rest. Ok (ps ++ rest))) err
