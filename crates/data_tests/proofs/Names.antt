-- Names of tasks, as the tests make them.
use Rattle.std.proofs.Common.{◌≡◌, ℕ, length, ◌≤◌, ◌&&◌, ◌==◌, List, [], ◌∷◌, Bool, true, false, IsTrue, refl, arith}
use Rattle.std.specs.List.{list_all}
use Rattle.flash_base.specs.Lists.{Each}

first_true : (a b : Bool) → (a && b) ≡ true → a ≡ true
first_true true b h = refl
first_true false b h = h

second_true : (a b : Bool) → (a && b) ≡ true → b ≡ true
second_true true b h = h
second_true false b h = cc

pub each_true : (p : ℕ → Bool) (xs : List ℕ) → list_all p xs ≡ true → Each (λ x. IsTrue (p x)) xs
each_true p [] h = tt
each_true p (x ∷ xs) h = (first_true (p x) (list_all p xs) h, each_true p xs (second_true (p x) (list_all p xs) h))

pub some_bytes : (xs : List ℕ) → (length xs == 0) ≡ false → 1 ≤ length xs
some_bytes [] h = cc
some_bytes (x ∷ xs) h = omega arith
