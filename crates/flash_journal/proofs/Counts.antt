-- The segments of the first units of a plan, counted.
use Rattle.std.proofs.Common.{◌≡◌, ℕ, zero, suc, ◌+◌, ◌*◌, ◌<◌, ◌≤◌, List, [], ◌∷◌, ◌++◌, length, get_or, take, refl, sym, ◌∙◌, ap, subst, arith}
use Rattle.flash_plan.specs.declared.unit.UnitPlan.{UnitPlan}
use Rattle.flash_plan.specs.Plan.{plan_of, IsAccepted}
use Rattle.journal_model.specs.Records.{segment_counts, total}
use Rattle.journal_steps.specs.Tables.{starts_of}

pub count_length : (P : List UnitPlan) → length (segment_counts P) ≡ length P
count_length [] = refl
count_length (u ∷ us) = ap (λ (n : ℕ). suc n) (count_length us)

counts_suc : (P : List UnitPlan) (n : ℕ) → n < length P → segment_counts (take (suc n) P) ≡ segment_counts (take n P) ++ (length (plan_of P n).segments ∷ [])
counts_suc [] n lt = absurd (omega (arith, lt))
counts_suc (u ∷ us) zero lt = refl
counts_suc (u ∷ us) (suc n) lt = ap (λ (xs : List ℕ). length u.segments ∷ xs) (counts_suc us n (omega (arith, lt)))

-- one unit more
pub counts_more : (P : List UnitPlan) (n : ℕ) → n < length P → segment_counts (take (n + 1) P) ≡ segment_counts (take n P) ++ (length (plan_of P n).segments ∷ [])
counts_more P n lt = let next : n + 1 ≡ suc n = omega arith in ap (λ (k : ℕ). segment_counts (take k P)) next ∙ counts_suc P n lt

total_push : (xs : List ℕ) (x : ℕ) → total (xs ++ x ∷ []) ≡ total xs + x
total_push [] x = omega arith
total_push (y ∷ ys) x = omega (arith, total_push ys x)

starts_push : (n : ℕ) (xs : List ℕ) (x : ℕ) → starts_of n (xs ++ x ∷ []) ≡ starts_of n xs ++ ((n + total xs) ∷ [])
starts_push n [] x = let same : n ≡ n + 0 = omega arith in ap (λ (k : ℕ). k ∷ []) same
starts_push n (y ∷ ys) x = let same : n + y + total ys ≡ n + (y + total ys) = omega arith in ap (λ (zs : List ℕ). n ∷ zs) (starts_push (n + y) ys x ∙ ap (λ (k : ℕ). starts_of (n + y) ys ++ (k ∷ [])) same)

pub total_more : (P : List UnitPlan) (n : ℕ) → n < length P → total (segment_counts (take (n + 1) P)) ≡ total (segment_counts (take n P)) + length (plan_of P n).segments
total_more P n lt = ap total (counts_more P n lt) ∙ total_push (segment_counts (take n P)) (length (plan_of P n).segments)

pub starts_more : (a : ℕ) (P : List UnitPlan) (n : ℕ) → n < length P → starts_of a (segment_counts (take (n + 1) P)) ≡ starts_of a (segment_counts (take n P)) ++ ((a + total (segment_counts (take n P))) ∷ [])
starts_more a P n lt = ap (starts_of a) (counts_more P n lt) ∙ starts_push a (segment_counts (take n P)) (length (plan_of P n).segments)

-- all units
pub counts_all : (P : List UnitPlan) (n : ℕ) → n ≡ length P → segment_counts (take n P) ≡ segment_counts P
counts_all P n is = ap (λ (k : ℕ). segment_counts (take k P)) is ∙ ap segment_counts (take_all P)
  where
    take_all : (xs : List UnitPlan) → take (length xs) xs ≡ xs
    take_all [] = refl
    take_all (x ∷ xs) = ap (λ (ys : List UnitPlan). x ∷ ys) (take_all xs)
