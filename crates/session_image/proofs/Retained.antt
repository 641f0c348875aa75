-- Maps of which some addresses are kept, and the addresses of ranges.
use Rattle.std.proofs.Common.{zero, suc, ◌≡◌, ◌∙◌, sym, refl, ap, ℕ, ◌+◌, ◌<◌, ◌≤◌, ◌⊎◌, inl, inr, Bool, true, false, cond, List, [], ◌∷◌, ◌++◌, length, Option, None, arith}
use Rattle.std.proofs.lemmas.Bool.{cases_lt, le-leb, lt-leb, lt-ltb, le-ltb}
use Rattle.std.proofs.lemmas.List.Sorted.{sum_by-IsPermutation}
use Rattle.std.proofs.lemmas.List.Sums.{sum_by-cons}
use Rattle.std.specs.Prelude.{◌||◌, ◌&&◌, nat_le, nat_lt}
use Rattle.std.specs.List.{All, sum_by}
use Rattle.std.specs.List.Sorted.{IsPermutation}
use Rattle.std.specs.Ordering.{nat_cmp}
use Rattle.std.specs.Cmp.{nat_cmp_total}
use Rattle.std.specs.FinMap.{get, empty, get-empty, retain_keys, get-retain_keys, same_map, nat_cmp-IsAntisymmetric}
use Rattle.flash_base.specs.ByteMaps.{is_in}
use Rattle.flash_base.specs.Lists.{Each}
use Rattle.span_store.specs.ByteMap.{ByteMap, over, Holds}
use Rattle.span_store.proofs.Lookups.{get-over, reads_hit, reads_other, cases_in}
use Rattle.span_store.specs.ByteMap.{top}
use Rattle.session_image.specs.Content.{is_in_one, is_kept}
use Rattle.session_image.specs.Filtering.{Apart}

-- ------ look-ups
pub get_kept : (m : ByteMap) (f : ℕ → Bool) (q : ℕ) → get (retain_keys m f) q ≡ cond (f q) (get m q) None
get_kept m f q = get-retain_keys m f q (λ x e. ap f (sym (nat_cmp-IsAntisymmetric q x e)))

pub none_kept : (b : Bool) (o : Option ℕ) → o ≡ None → cond b o None ≡ None
none_kept true o e = e
none_kept false o e = refl

same_kept : (b c : Bool) (o : Option ℕ) → (b ≡ c) ⊎ (o ≡ None) → cond b o None ≡ cond c o None
same_kept b c o (inl e) = ap (λ t. cond t o None) e
same_kept b c o (inr e) = none_kept b o e ∙ sym (none_kept c o e)

-- tests that agree wherever the map has a byte
pub retain_same : (m : ByteMap) (f g : ℕ → Bool) → ((q : ℕ) → (f q ≡ g q) ⊎ (get m q ≡ None)) → retain_keys m f ≡ retain_keys m g
retain_same m f g h = same_map nat_cmp_total nat_cmp-IsAntisymmetric _ _ (λ q. get_kept m f q ∙ same_kept (f q) (g q) (get m q) (h q) ∙ sym (get_kept m g q))

pub retain_none : (m : ByteMap) → empty ≡ retain_keys m (is_in_one [])
retain_none m = same_map nat_cmp_total nat_cmp-IsAntisymmetric _ _ (λ q. get-empty nat_cmp q ∙ sym (get_kept m (is_in_one []) q))

-- ------ tests
pub or_false : (b : Bool) → (b || false) ≡ b
or_false true = refl
or_false false = refl

pub or_true : (b : Bool) → (b || true) ≡ true
or_true true = refl
or_true false = refl

pub and_false : (b : Bool) → (b && false) ≡ false
and_false true = refl
and_false false = refl

or_assoc : (a b c : Bool) → ((a || b) || c) ≡ (a || (b || c))
or_assoc true b c = refl
or_assoc false b c = refl

pub or_had : (b c : Bool) → b ≡ true → (b || c) ≡ true
or_had b c e = ap (λ t. t || c) e

-- ------ ranges one after another
pub is_in_one-append : (xs ys : List (ℕ × ℕ)) (a : ℕ) → is_in_one (xs ++ ys) a ≡ (is_in_one xs a || is_in_one ys a)
is_in_one-append [] ys a = refl
is_in_one-append (x ∷ xs) ys a = ap (λ t. is_in x.0 x.1 a || t) (is_in_one-append xs ys a) ∙ sym (or_assoc (is_in x.0 x.1 a) (is_in_one xs a) (is_in_one ys a))

pub one_more : (done : List (ℕ × ℕ)) (r : ℕ × ℕ) (a : ℕ) → is_in_one (done ++ (r ∷ [])) a ≡ (is_in_one done a || is_in r.0 r.1 a)
one_more done r a = is_in_one-append done (r ∷ []) a ∙ ap (λ t. is_in_one done a || t) (or_false (is_in r.0 r.1 a))

pub in_before : (r : ℕ × ℕ) (a : ℕ) → a < r.0 → is_in r.0 r.1 a ≡ false
in_before r a l = ap (λ t. t && nat_lt a (r.0 + r.1)) (lt-leb r.0 a l)

pub in_after : (r : ℕ × ℕ) (a : ℕ) → r.0 + r.1 ≤ a → is_in r.0 r.1 a ≡ false
in_after r a l = ap (λ t. nat_le r.0 a && t) (le-ltb a (r.0 + r.1) l) ∙ and_false (nat_le r.0 a)

pub in_there : (r : ℕ × ℕ) (a : ℕ) → r.0 ≤ a → a < r.0 + r.1 → is_in r.0 r.1 a ≡ true
in_there r a l u = ap (λ t. t && nat_lt a (r.0 + r.1)) (le-leb r.0 a l) ∙ lt-ltb a (r.0 + r.1) u

-- an address of the ranges so far, or of the next
pub in_done : (done : List (ℕ × ℕ)) (r : ℕ × ℕ) (a : ℕ) → is_in_one done a ≡ true → is_in_one (done ++ (r ∷ [])) a ≡ true
in_done done r a e = one_more done r a ∙ or_had (is_in_one done a) (is_in r.0 r.1 a) e

pub in_next : (done : List (ℕ × ℕ)) (r : ℕ × ℕ) (a : ℕ) → r.0 ≤ a → a < r.0 + r.1 → is_in_one (done ++ (r ∷ [])) a ≡ true
in_next done r a l u = one_more done r a ∙ ap (λ t. is_in_one done a || t) (in_there r a l u) ∙ or_true (is_in_one done a)

-- of the next range only what comes after an address is new
pub part_new : (parts done : List (ℕ × ℕ)) (r : ℕ × ℕ) (from size : ℕ) → ((a : ℕ) → is_in_one parts a ≡ is_in_one done a) → r.0 ≤ from → from + size ≡ r.0 + r.1
    → ((q : ℕ) → r.0 ≤ q → q < from → is_in_one done q ≡ true) → (a : ℕ) → is_in_one (parts ++ ((from, size) ∷ [])) a ≡ is_in_one (done ++ (r ∷ [])) a
part_new parts done r from size same le end had a =
    one_more parts (from, size) a
    ∙ ap (λ t. t || is_in from size a) (same a)
    ∙ elim (cases_lt a from) [
      | inl l ↦
          ap (λ t. is_in_one done a || t) (in_before (from, size) a l)
          ∙ elim (cases_lt a r.0) [
            | inl u ↦ ap (λ t. is_in_one done a || t) (sym (in_before r a u))
            | inr u ↦ or_had (is_in_one done a) false (had a u l) ∙ sym (or_had (is_in_one done a) (is_in r.0 r.1 a) (had a u l))
          ]
      | inr g ↦ elim (cases_lt a (from + size)) [
        | inl u ↦ ap (λ t. is_in_one done a || t) (in_there (from, size) a g u ∙ sym (in_there r a (omega arith) (omega arith)))
        | inr u ↦ ap (λ t. is_in_one done a || t) (in_after (from, size) a u ∙ sym (in_after r a (omega arith)))
      ]
    ]
    ∙ sym (one_more done r a)

-- nothing of it is new
pub part_old : (parts done : List (ℕ × ℕ)) (r : ℕ × ℕ) → ((a : ℕ) → is_in_one parts a ≡ is_in_one done a) → ((q : ℕ) → r.0 ≤ q → q < r.0 + r.1 → is_in_one done q ≡ true)
    → (a : ℕ) → is_in_one parts a ≡ is_in_one (done ++ (r ∷ [])) a
part_old parts done r same had a =
    same a
    ∙ elim (cases_lt a r.0) [
      | inl l ↦ sym (ap (λ t. is_in_one done a || t) (in_before r a l) ∙ or_false (is_in_one done a))
      | inr g ↦ elim (cases_lt a (r.0 + r.1)) [
        | inl u ↦ had a g u ∙ sym (or_had (is_in_one done a) (is_in r.0 r.1 a) (had a g u))
        | inr u ↦ sym (ap (λ t. is_in_one done a || t) (in_after r a u) ∙ or_false (is_in_one done a))
      ]
    ]
    ∙ sym (one_more done r a)

pub ended_more : (m n : ℕ) (rs : List (ℕ × ℕ)) → m ≤ n → Each (λ r. r.0 + r.1 ≤ m) rs → Each (λ r. r.0 + r.1 ≤ n) rs
ended_more m n [] le e = tt
ended_more m n (r ∷ rs) le e = (let h = e.0 in omega arith, ended_more m n rs le e.1)

-- ranges that ascend, with one more behind them
pub apart_more : (low : ℕ) (rs : List (ℕ × ℕ)) (from size : ℕ) → Apart low rs → low ≤ from → Each (λ r. r.0 + r.1 ≤ from) rs → 1 ≤ size → from + size ≤ top → Apart low (rs ++ ((from, size) ∷ []))
apart_more low [] from size s le e some fits = (le, some, fits, tt)
apart_more low (r ∷ rs) from size s le e some fits = (s.0, s.1, s.2, apart_more (r.0 + r.1) rs from size s.3 e.0 e.1 some fits)

-- ------ in another order
counted : (b t : Bool) (n : ℕ) → t ≡ nat_lt 0 n → (b || t) ≡ nat_lt 0 (cond b 1 0 + n)
counted true t n e = sym (lt-ltb 0 (1 + n) (omega arith))
counted false t n e = let z : n ≡ 0 + n = omega arith in e ∙ ap (nat_lt 0) z

abbrev has : ℕ → ℕ × ℕ → ℕ
has a r = cond (is_in r.0 r.1 a) 1 0

in_one_count : (xs : List (ℕ × ℕ)) (a : ℕ) → is_in_one xs a ≡ nat_lt 0 (sum_by (has a) xs)
in_one_count [] a = refl
in_one_count (x ∷ xs) a = counted (is_in x.0 x.1 a) (is_in_one xs a) (sum_by (has a) xs) (in_one_count xs a) ∙ ap (nat_lt 0) (sym (sum_by-cons (has a) x xs))

pub other_order : (xs ys : List (ℕ × ℕ)) → IsPermutation xs ys → (a : ℕ) → is_in_one ys a ≡ is_in_one xs a
other_order xs ys moved a = in_one_count ys a ∙ ap (nat_lt 0) (sum_by-IsPermutation (has a) xs ys moved) ∙ sym (in_one_count xs a)

pub each_is : (P : ℕ × ℕ → Type 0) (xs : List (ℕ × ℕ)) → Each P xs → All P xs
each_is P [] e k d l = absurd (omega arith)
each_is P (x ∷ xs) e zero d l = e.0
each_is P (x ∷ xs) e (suc k) d l = each_is P xs e.1 k d (omega arith)
