-- Tests over the numbers below a bound, and the slots of a journal.
use Rattle.std.proofs.Common.{◌≡◌, inl, inr, ℕ, zero, suc, ◌<◌, true, false, refl, sym, subst, arith}
use Rattle.std.specs.Prelude.{Bool, ◌&&◌, ◌||◌}
use Rattle.std.proofs.lemmas.Bool.{cases_eq, and_parts, and_from}
use Rattle.flash_base.specs.Numbers.{each_below, some_below}

pub below_at : (n : ℕ) (p : ℕ → Bool) → each_below n p ≡ true → (k : ℕ) → k < n → p k ≡ true
below_at zero p all k lt = absurd (omega (arith, lt))
below_at (suc n) p all k lt =
    let parts = and_parts _ _ all in
    elim (cases_eq k n) [
      | inl e ↦ subst (λ (i : ℕ). p i ≡ true) (sym e) parts.1
      | inr ne ↦ below_at n p parts.0 k (omega (arith, lt, ne))
    ]

pub below_from : (n : ℕ) (p : ℕ → Bool) → ((k : ℕ) → k < n → p k ≡ true) → each_below n p ≡ true
below_from zero p each = refl
below_from (suc n) p each = and_from _ _ (below_from n p (λ k lt. each k (omega (arith, lt)))) (each n (omega arith))

pub below_same : (n : ℕ) (p q : ℕ → Bool) → ((k : ℕ) → k < n → p k ≡ q k) → each_below n p ≡ each_below n q
below_same zero p q each = refl
below_same (suc n) p q each = λ i. below_same n p q (λ k lt. each k (omega (arith, lt))) i && each n (omega arith) i

or_false : (x y : Bool) → x ≡ false → y ≡ false → (x || y) ≡ false
or_false x y e1 e2 = rw (e1, e2) refl

pub none_below : (n : ℕ) (p : ℕ → Bool) → ((k : ℕ) → k < n → p k ≡ false) → some_below n p ≡ false
none_below zero p each = refl
none_below (suc n) p each = or_false _ _ (none_below n p (λ k lt. each k (omega (arith, lt)))) (each n (omega arith))
