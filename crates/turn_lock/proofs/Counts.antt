-- Sums over the views, of which one changes, and lists of positions that differ.
use Rattle.std.proofs.Common.{◌≡◌, ◌≢◌, ℕ, zero, suc, ◌+◌, ◌-◌, ◌<◌, ◌≤◌, List, [], ◌∷◌, ◌++◌, length, set, get_or, refl, sym, ap, subst, ◌∙◌, arith, length-append}
use mathlib.Core.Logic.{dite}
use mathlib.Core.Option.{some, some-ne-none, some-injective}
use native.Mathlib.Decide.{dec_lt}
use lib.ListN.{get_elem?}
use Rattle.std.specs.Prelude.{All, AllPairs, sum_by}
use Rattle.std.specs.List.{range_with_len}
use Rattle.std.proofs.lemmas.List.{get_or_append_left, get_or-append_right}
use Rattle.std.proofs.lemmas.List.FromFn.{length-range_with_len, get_or-range_with_len}
use Rattle.std.proofs.lemmas.List.Sums.{sum_by-cons, sum_by-le-sum_by}

module _ {A : Type 0} (f : A → ℕ) where
  pub sum_by-set_at : (l : List A) (i : ℕ) (a b : A) → get_elem? l i ≡ some a → sum_by f (set l i b) + f a ≡ sum_by f l + f b
  sum_by-set_at [] i a b e = absurd (some-ne-none a (sym e))
  sum_by-set_at (x ∷ xs) zero a b e = let same : f x ≡ f a = ap f (some-injective x a e) in let p = sum_by-cons f b xs in let q = sum_by-cons f x xs in omega arith
  sum_by-set_at (x ∷ xs) (suc i) a b e = let ih = sum_by-set_at xs i a b e in let p = sum_by-cons f x (set xs i b) in let q = sum_by-cons f x xs in omega arith

  pub at-le-sum_by : (l : List A) (i : ℕ) (a : A) → get_elem? l i ≡ some a → f a ≤ sum_by f l
  at-le-sum_by [] i a e = absurd (some-ne-none a (sym e))
  at-le-sum_by (x ∷ xs) zero a e = let same : f x ≡ f a = ap f (some-injective x a e) in let q = sum_by-cons f x xs in omega arith
  at-le-sum_by (x ∷ xs) (suc i) a e = let ih = at-le-sum_by xs i a e in let q = sum_by-cons f x xs in omega arith

  pub two-le-sum_by : (l : List A) (i j : ℕ) (a b : A) → i ≢ j → get_elem? l i ≡ some a → get_elem? l j ≡ some b → f a + f b ≤ sum_by f l
  two-le-sum_by [] i j a b apart e d = absurd (some-ne-none a (sym e))
  two-le-sum_by (x ∷ xs) zero zero a b apart e d = absurd (apart refl)
  two-le-sum_by (x ∷ xs) zero (suc j) a b apart e d = let same : f x ≡ f a = ap f (some-injective x a e) in let le = at-le-sum_by xs j b d in let q = sum_by-cons f x xs in omega arith
  two-le-sum_by (x ∷ xs) (suc i) zero a b apart e d = let same : f x ≡ f b = ap f (some-injective x b d) in let le = at-le-sum_by xs i a e in let q = sum_by-cons f x xs in omega arith
  two-le-sum_by (x ∷ xs) (suc i) (suc j) a b apart e d = let ih = two-le-sum_by xs i j a b (λ h. apart (ap suc h)) e d in let q = sum_by-cons f x xs in omega arith

  -- less at one place, and nowhere more
  pub sum_by-lt : (g : A → ℕ) → ((x : A) → f x ≤ g x) → (l : List A) (i : ℕ) (a : A) → get_elem? l i ≡ some a → f a < g a → sum_by f l < sum_by g l
  sum_by-lt g le [] i a e lt = absurd (some-ne-none a (sym e))
  sum_by-lt g le (x ∷ xs) zero a e lt =
      let less : f x < g x = subst (λ (y : A). f y < g y) (sym (some-injective x a e)) lt in let rest = sum_by-le-sum_by f g xs le in let p = sum_by-cons f x xs in let q = sum_by-cons g x xs in omega arith
  sum_by-lt g le (x ∷ xs) (suc i) a e lt = let ih = sum_by-lt g le xs i a e lt in let here = le x in let p = sum_by-cons f x xs in let q = sum_by-cons g x xs in omega arith

abbrev Differ : List ℕ → Type 0
Differ = AllPairs (λ p q. p ≢ q)

pub differ-nil : Differ []
differ-nil i j d lt less = absurd (let bad : ⊥ = omega arith in bad)

-- positions of two kinds differ, and so do those of both together
pub differ-append : (P Q : ℕ → Type 0) (xs ys : List ℕ) → Differ xs → Differ ys → All P xs → All Q ys → ((p : ℕ) → P p → Q p → ⊥) → Differ (xs ++ ys)
differ-append P Q xs ys a b ps qs apart i j d lt less =
    let n : ℕ = length xs in let all : length (xs ++ ys) ≡ n + length ys = length-append xs ys in
    dite (dec_lt j n)
    (λ (low : j < n). let same = a i j d lt low in λ e. same (sym (get_or_append_left xs ys d i (omega arith)) ∙ e ∙ get_or_append_left xs ys d j low))
    (λ (high : ¬ (j < n)). dite (dec_lt i n)
    (λ (low : i < n). λ e. let p = ps i d low in let q = qs (j - n) d (omega arith) in
    apart (get_or xs i d) p (subst Q (sym (get_or-append_right xs ys n j d refl (omega arith)) ∙ sym e ∙ get_or_append_left xs ys d i low) q))
    (λ (up : ¬ (i < n)). let other = b (i - n) (j - n) d (omega arith) (omega arith) in
    λ e. other (sym (get_or-append_right xs ys n i d refl (omega arith)) ∙ e ∙ get_or-append_right xs ys n j d refl (omega arith))))

pub differ-range : (n k : ℕ) → Differ (range_with_len n k)
differ-range n k i j d lt less = let long = length-range_with_len n k in let a = get_or-range_with_len n k i d (omega arith) in let b = get_or-range_with_len n k j d (omega arith) in λ e. let bad : ⊥ = omega arith in bad

-- the positions from n on are at n or above, and below their end
pub all-range : (n k : ℕ) → All (λ p. (n ≤ p) × (p < n + k)) (range_with_len n k)
all-range n k i d lt = let long = length-range_with_len n k in let a = get_or-range_with_len n k i d (omega arith) in (omega arith, omega arith)
