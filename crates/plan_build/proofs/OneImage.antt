-- A session has one image, or one refusal.
use Rattle.std.proofs.Common.{◌≡◌, ◌∙◌, ◌⊎◌, inl, inr, sym, refl, ap, subst, ℕ, arith, List, Option, Some, None, Result, Ok, Err}
use Rattle.std.proofs.lemmas.Bool.{cases_lt}
use Rattle.span_store.specs.Lowest.{IsLowest}
use Rattle.ecu_mem.specs.declared.types.EcuMem.{EcuMem}
use Rattle.ecu_mem.specs.declared.types.Ident.{Ident}
use Rattle.session_image.specs.Checks.{all_checked}
use Rattle.session_image.specs.Files.{session_of, blocks_of}
use Rattle.session_image.specs.Images.{own_of, IsImageAnswer, IsRefused, IsWholeImage}
use Rattle.session_image.specs.Pieces.{session_pieces, segments_of, IsShared}
use Rattle.session_image.specs.declared.pieces.Piece.{Piece}
use Rattle.session_image.specs.declared.types.Image.{Image}
use Rattle.session_image.specs.declared.types.Checked.{Checked}
use Rattle.session_image.specs.declared.types.ImageFault.{ImageFault}
use Rattle.session_image.specs.declared.types.ImageFault.TheVariants as fault

-- there is one lowest number
pub lowest_one : (P : ℕ → Type 0) (o q : Option ℕ) → IsLowest P o → IsLowest P q → o ≡ q
lowest_one P None None h k = refl
lowest_one P None (Some b) h k = absurd (h b k.0)
lowest_one P (Some a) None h k = absurd (k a h.0)
lowest_one P (Some a) (Some b) h k = elim (cases_lt a b) [
  | inl lt ↦ absurd (k.1 a lt h.0)
  | inr le ↦ elim (cases_lt b a) [
    | inl lt ↦ absurd (h.1 b lt k.0)
    | inr le' ↦ let e : a ≡ b = omega arith in ap Some e
  ]
]

-- what comes of segments, the lowest shared address and the checksums
abbrev pub behind : List Ident → List Piece → Option ℕ → Result (List Checked) ImageFault → Result Image ImageFault
behind own ps (Some at) checks = Err (fault.Overlap at)
behind own ps None (Err e) = Err e
behind own ps None (Ok checks) = Ok (record { segments = segments_of ps; checks = checks; own = own })

-- how an answer comes about
pub data Comes (own : List Ident) (pieces : Result (List Piece) ImageFault) (checks : List Piece → Result (List Checked) ImageFault) (a : Result Image ImageFault) : Type 0 where
  none : a ≡ Err fault.NoMemory → Comes own pieces checks a
  early : (e : ImageFault) → pieces ≡ Err e → a ≡ Err e → Comes own pieces checks a
  late : (ps : List Piece) → pieces ≡ Ok ps → (o : Option ℕ) → IsLowest (IsShared ps) o → a ≡ behind own ps o (checks ps) → Comes own pieces checks a

same_late : (own : List Ident) (checks : List Piece → Result (List Checked) ImageFault) (ps qs : List Piece) (o q : Option ℕ) → ps ≡ qs → IsLowest (IsShared ps) o → IsLowest (IsShared qs) q → behind own ps o (checks ps) ≡ behind own qs q (checks qs)
same_late own checks ps qs o q same h k =
    let e : o ≡ q = lowest_one (IsShared ps) o q h (subst (λ l. IsLowest (IsShared l) q) (sym same) k) in
    ap (λ l. behind own l o (checks l)) same ∙ ap (λ x. behind own qs x (checks qs)) e

one : {own : List Ident} {pieces : Result (List Piece) ImageFault} {checks : List Piece → Result (List Checked) ImageFault} {a b : Result Image ImageFault} →
    Comes own pieces checks a → Comes own pieces checks b → (a ≡ Err fault.NoMemory) ⊎ (b ≡ Err fault.NoMemory) ⊎ (a ≡ b)
one (none h) k = inl h
one (early e p h) (none k) = inr (inl k)
one (early e p h) (early f q k) = let s : e ≡ f = cc in inr (inr (h ∙ ap (λ x. Err x) s ∙ sym k))
one (early e p h) (late ps q o l k) = cc
one (late ps p o l h) (none k) = inr (inl k)
one (late ps p o l h) (early f q k) = cc
one {own} {pieces} {checks} (late ps p o l h) (late qs q o' l' k) = let s : ps ≡ qs = cc in inr (inr (h ∙ same_late own checks ps qs o o' s l l' ∙ sym k))

module _ (m : EcuMem) (s : ℕ) (files : List (List ℕ × List ℕ)) (fill : Option ℕ) where
  abbrev ComesOf : Result Image ImageFault → Type 0
  ComesOf a = Comes (own_of (blocks_of m s)) (session_pieces m files fill (blocks_of m s)) (λ ps. all_checked ps (session_of m s).checks) a

  of_refused : (e : ImageFault) → IsRefused m s files fill e → ComesOf (Err e)
  of_refused e (inl h) = early e h refl
  of_refused e (inr h) = late h.0 h.1.pieces None h.1.apart (ap (behind (own_of (blocks_of m s)) h.0 None) (sym h.2))

  of_whole : (i : Image) → IsWholeImage m s files fill i → ComesOf (Ok i)
  of_whole i h = late h.pieces h.set.pieces None h.set.apart (same ∙ ap (behind (own_of (blocks_of m s)) h.pieces None) (sym h.checks))
    where
      same : Ok i ≡ behind (own_of (blocks_of m s)) h.pieces None (Ok i.checks)
      same = rw (sym h.segments, sym h.own) refl

  comes : (a : Result Image ImageFault) → IsImageAnswer m s files fill a → ComesOf a
  comes (Ok i) h = of_whole i h
  comes (Err (fault.Compressed id)) h = of_refused (fault.Compressed id) h
  comes (Err (fault.UserDefined id)) h = of_refused (fault.UserDefined id) h
  comes (Err (fault.BadText id)) h = of_refused (fault.BadText id) h
  comes (Err (fault.Lines id e)) h = of_refused (fault.Lines id e) h
  comes (Err (fault.NoSegment id)) h = of_refused (fault.NoSegment id) h
  comes (Err fault.TooLarge) h = of_refused fault.TooLarge h
  comes (Err (fault.BinarySize id said seen)) h = of_refused (fault.BinarySize id said seen) h
  comes (Err (fault.Hole n at)) h = of_refused (fault.Hole n at) h
  comes (Err (fault.OutOfRange n)) h = of_refused (fault.OutOfRange n) h
  comes (Err (fault.Overlap at)) h = late h.pieces h.are (Some at) h.lowest refl
  comes (Err (fault.ChecksumDiffers name said got)) h = of_refused (fault.ChecksumDiffers name said got) h
  comes (Err fault.NoMemory) h = none refl

  pub one_image : (a b : Result Image ImageFault) → IsImageAnswer m s files fill a → IsImageAnswer m s files fill b → (a ≡ Err fault.NoMemory) ⊎ (b ≡ Err fault.NoMemory) ⊎ (a ≡ b)
  one_image a b h k = one (comes a h) (comes b k)
