-- Facts on each of a few numbers: as a table with a row for each, or as a test that computes.
use Rattle.std.proofs.Common.{◌≡◌, ℕ, zero, suc, ◌+◌, ◌<◌, Bool, true, false, ◌==◌, Option, Some, None, subst, arith}
use Rattle.std.proofs.lemmas.Bool.{and_parts}
use Rattle.std.specs.List.{range_with_len}
use Rattle.flash_base.specs.Lists.{all_of}

-- of so many numbers from one on
abbrev pub Rows : (ℕ → Type 0) → ℕ → ℕ → Type 0
Rows P from zero = Unit {0}
Rows P from (suc n) = P from × Rows P (suc from) n

-- one row
pub row : (P : ℕ → Type 0) (from n : ℕ) → Rows P from n → (j : ℕ) → j < n → P (from + j)
row P from zero t j h = absurd (omega (arith, h))
row P from (suc n) t zero h = let e : from ≡ from + 0 = omega arith in subst P e t.0
row P from (suc n) t (suc j) h =
    let e : suc from + j ≡ from + suc j = omega arith in
    subst P e (row P (suc from) n t.1 j (omega (arith, h)))

-- of a table from 0 on
pub row_of : (P : ℕ → Type 0) (n : ℕ) → Rows P 0 n → (j : ℕ) → j < n → P j
row_of P n t j h = let e : 0 + j ≡ j = omega arith in subst P e (row P 0 n t j h)

-- ------ tests
pub each_holds : (test : ℕ → Bool) (from n : ℕ) → all_of (range_with_len from n) test ≡ true → (j : ℕ) → j < n → test (from + j) ≡ true
each_holds test from zero t j h = absurd (omega (arith, h))
each_holds test from (suc n) t zero h =
    let e : from ≡ from + 0 = omega arith in
    subst (λ (k : ℕ). test k ≡ true) e (and_parts (test from) (all_of (range_with_len (from + 1) n) test) t).0
each_holds test from (suc n) t (suc j) h =
    let e : from + 1 + j ≡ from + suc j = omega arith in
    subst (λ (k : ℕ). test k ≡ true) e (each_holds test (from + 1) n (and_parts (test from) (all_of (range_with_len (from + 1) n) test) t).1 j (omega (arith, h)))

-- of numbers from 0 on
pub holds_of : (test : ℕ → Bool) (n : ℕ) → all_of (range_with_len 0 n) test ≡ true → (j : ℕ) → j < n → test j ≡ true
holds_of test n t j h = let e : 0 + j ≡ j = omega arith in subst (λ (k : ℕ). test k ≡ true) e (each_holds test 0 n t j h)

-- the value is this number
abbrev pub is_number : Option ℕ → ℕ → Bool
is_number None n = false
is_number (Some m) n = m == n

-- ------ the types of a function's arguments, for types that have no name outside their crate
abbrev pub First : {A B : Type 0} → (A → B) → Type 0
First {A} f = A

abbrev pub Third : {A B C D : Type 0} → (A → B → C → D) → Type 0
Third {A} {B} {C} f = C

abbrev pub Second : {A B C : Type 0} → (A → B → C) → Type 0
Second {A} {B} {C} f = B
