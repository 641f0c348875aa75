-- The target ranges by their starts, and the lowest address that two have.
use Rattle.std.proofs.Common.{◌≡◌, ◌∙◌, sym, refl, ap, zero, suc, ◌+◌, ◌<◌, ◌≤◌, ℕ, List, [], ◌∷◌, length, get_or, arith, Option, Some, None, subst, cond, false, nat_lt}
use Rattle.std.proofs.lemmas.Bool.{le-ltb}
use Rattle.std.proofs.lemmas.List.Sorted.{All-permutation, sum_by-IsPermutation}
use Rattle.std.proofs.lemmas.List.Sums.{sum_by-cons}
use Rattle.std.specs.List.{All, sum_by}
use Rattle.std.specs.List.Sorted.{IsPermutation, IsNonDecreasingBy}
use Rattle.flash_base.specs.Lists.{Each}
use Rattle.span_store.specs.Lowest.{IsLowest}
use Rattle.session_image.specs.Kept.{IsPlaced}
use Rattle.session_image.specs.Pieces.{IsShared}
use Rattle.session_image.specs.Targets.{ranges_of, hit, hits, Ascend, first_met}
use Rattle.session_image.specs.declared.pieces.Piece.{Piece}
use Rattle.session_image.proofs.Apart.{met}
use Rattle.session_image.proofs.Shared.{hit_two, two_hits}

-- it begins before its end
abbrev pub HasAddress : ℕ × ℕ → Type 0
HasAddress t = t.0 < t.1

some_ranges : (ps : List Piece) → Each IsPlaced ps → All HasAddress (ranges_of ps)
some_ranges [] h k d l = absurd (omega arith)
some_ranges (p ∷ ps) h zero d l = let one : 1 ≤ length p.body = h.0.some in omega arith
some_ranges (p ∷ ps) h (suc k) d l = some_ranges ps h.1 k d (omega arith)

ascend_from : (ts : List (ℕ × ℕ)) (low : ℕ) → IsNonDecreasingBy (λ (t : ℕ × ℕ). t.0) ts → All HasAddress ts → ((d : ℕ × ℕ) → 0 < length ts → low ≤ (get_or ts 0 d).0) → Ascend low ts
ascend_from [] low up some first = tt
ascend_from (t ∷ ts) low up some first = (
  first t (omega arith),
  some 0 t (omega arith),
  ascend_from ts t.0 (λ i j d le l. up (suc i) (suc j) d (omega arith) (omega arith)) (λ k d l. some (suc k) d (omega arith)) (λ d l. up 0 1 d (omega arith) (omega arith)),
)

-- ranges of segments in the order of their starts
pub ascend : (ps : List Piece) (ts : List (ℕ × ℕ)) → Each IsPlaced ps → IsPermutation (ranges_of ps) ts → IsNonDecreasingBy (λ (t : ℕ × ℕ). t.0) ts → Ascend 0 ts
ascend ps ts placed same up = ascend_from ts 0 up (All-permutation HasAddress (ranges_of ps) ts same (some_ranges ps placed)) (λ d l. omega arith)

-- ------ the order changes no count
hits_sum : (a : ℕ) (ts : List (ℕ × ℕ)) → hits a ts ≡ sum_by (hit a) ts
hits_sum a [] = refl
hits_sum a (t ∷ ts) = ap (λ n. hit a t + n) (hits_sum a ts) ∙ sym (sum_by-cons (hit a) t ts)

hits_same : (a : ℕ) (xs ys : List (ℕ × ℕ)) → IsPermutation xs ys → hits a xs ≡ hits a ys
hits_same a xs ys h = hits_sum a xs ∙ sym (sum_by-IsPermutation (hit a) xs ys h) ∙ sym (hits_sum a ys)

-- ------ the lowest
lowest_same : (P Q : ℕ → Type 0) (o : Option ℕ) → ((a : ℕ) → P a → Q a) → ((a : ℕ) → Q a → P a) → IsLowest P o → IsLowest Q o
lowest_same P Q None to from h = λ a q. h a (from a q)
lowest_same P Q (Some low) to from h = (to low h.0, λ a below q. h.1 a below (from a q))

lowest_hits : (ts : List (ℕ × ℕ)) → Ascend 0 ts → IsLowest (λ a. 2 ≤ hits a ts) (first_met 0 ts)
lowest_hits [] asc = λ a h. omega (arith, h)
lowest_hits (t ∷ ts) asc =
    let e : nat_lt t.0 0 ≡ false = le-ltb t.0 0 (omega arith) in
    subst (λ x. IsLowest (λ a. 2 ≤ hits a (t ∷ ts)) (cond x (Some t.0) (first_met t.1 ts))) (sym e) (met t ts asc.1 asc.2)

pub lowest_shared : (ps : List Piece) (ts : List (ℕ × ℕ)) → IsPermutation (ranges_of ps) ts → Ascend 0 ts → IsLowest (IsShared ps) (first_met 0 ts)
lowest_shared ps ts same asc =
    lowest_same (λ a. 2 ≤ hits a ts) (IsShared ps) (first_met 0 ts)
    (λ a h. hit_two ps a (subst (λ n. 2 ≤ n) (sym (hits_same a (ranges_of ps) ts same)) h))
    (λ a w. subst (λ n. 2 ≤ n) (hits_same a (ranges_of ps) ts same) (two_hits ps w.0 w.1 w.2 w.3 a w.4 w.5 w.6 w.7 w.8))
    (lowest_hits ts asc)
