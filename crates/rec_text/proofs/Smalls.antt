-- Lists of bytes, and one more at their end.
use Rattle.std.proofs.Common.{suc, ◌≡◌, ℕ, ◌+◌, ◌^◌, ◌<◌, List, [], ◌∷◌, ◌++◌, length, take, sum, Some, refl, sym, ap, ◌∙◌, subst, arith, append_assoc}
use Rattle.std.proofs.lemmas.List.Sums.{sum_by-append}
use Rattle.std.specs.List.{slice_get, All}
use Rattle.std.specs.FinMap.{get}
use Rattle.span_store.specs.Extents.{Extent, map_of, AreExtents}
use Rattle.span_store.proofs.Lookups.{held}
use Rattle.rec_text.proofs.Adds.{some_below}

-- each is a byte
abbrev pub Small : List ℕ → Type 0
Small [] = Unit {0}
Small (b ∷ bs) = (b < 256) × Small bs

abbrev pub AllSmall : List Extent → Type 0
AllSmall [] = Unit {0}
AllSmall (e ∷ es) = Small e.1 × AllSmall es

pub Small-push : (xs : List ℕ) (b : ℕ) → Small xs → b < 256 → Small (xs ++ (b ∷ []))
Small-push [] b s l = (l, tt)
Small-push (x ∷ xs) b s l = (s.0, Small-push xs b s.1 l)

pub AllSmall-push : (es : List Extent) (e : Extent) → AllSmall es → Small e.1 → AllSmall (es ++ (e ∷ []))
AllSmall-push [] e s l = (l, tt)
AllSmall-push (x ∷ es) e s l = (s.0, AllSmall-push es e s.1 l)

pub sum-push : (xs : List ℕ) (b : ℕ) → sum (xs ++ (b ∷ [])) ≡ sum xs + b
sum-push xs b =
    let whole : sum (xs ++ (b ∷ [])) ≡ sum xs + sum (b ∷ []) = sum_by-append (λ x. x) xs (b ∷ []) in
    let one : sum (b ∷ []) ≡ b = omega arith in
    omega arith

pub take_front : (xs ys : List ℕ) → take (length xs) (xs ++ ys) ≡ xs
take_front [] ys = refl
take_front (x ∷ xs) ys = ap (λ t. x ∷ t) (take_front xs ys)

pub small_list : (bs : List ℕ) → ((k b : ℕ) → slice_get bs k ≡ Some b → b < 256) → Small bs
small_list [] h = tt
small_list (x ∷ bs) h = (h 0 x refl, small_list bs (λ k b e. h (suc k) b e))

-- the extents of a map of bytes
pub small_all : (done es : List Extent) → AreExtents (done ++ es) → ((a b : ℕ) → get (map_of (done ++ es)) a ≡ Some b → b < 256) → AllSmall es
small_all done [] s h = tt
small_all done (e ∷ es) s h =
    let more : (done ++ (e ∷ [])) ++ es ≡ done ++ (e ∷ es) = append_assoc done (e ∷ []) es in (
      small_list e.1 (λ k b is. h (e.0 + k) b (held done e es s k (some_below e.1 k b is) ∙ is)),
      small_all (done ++ (e ∷ [])) es (subst AreExtents (sym more) s) (subst (λ t. (a b : ℕ) → get (map_of t) a ≡ Some b → b < 256) (sym more) h),
    )

pub small_of : (xs : List ℕ) → All (λ b. b < 2 ^ 8) xs → Small xs
small_of [] h = tt
small_of (x ∷ xs) h = (h 0 0 (omega arith), small_of xs (λ k d l. h (suc k) d (omega arith)))
