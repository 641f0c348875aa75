-- Plans to which pieces are added, and calls that are listed.
use Rattle.std.proofs.Common.{◌≡◌, ℕ, ◌≤◌, Bool, true, false, List, [], ◌∷◌, ◌++◌, length, Result, Ok, Err, refl, sym, subst, rules}
use Rattle.std.proofs.lemmas.Bool.{le-leb}
use Rattle.std.specs.Cmp.Derive.{both_true}
use Rattle.std.specs.Prelude.{◌&&◌, OnOk, OnErr}
use Rattle.flash_base.specs.declared.fault.NoMemory.{NoMemory}
use Rattle.flash_base.specs.Lists.{all_of}
use Rattle.bench_shop.specs.Faults.{is_piece}

left_true : (a b : Bool) → (a && b) ≡ true → a ≡ true
left_true true b is = refl
left_true false b is = is

right_true : (a b : Bool) → (a && b) ≡ true → b ≡ true
right_true true b is = is
right_true false b is = absurd (search (rules, is))

pub all_more : (xs : List (ℕ × List ℕ)) (x : ℕ × List ℕ) → all_of xs is_piece ≡ true → is_piece x ≡ true
    → all_of (xs ++ x ∷ []) is_piece ≡ true
all_more [] x all one = both_true one refl
all_more (y ∷ ys) x all one = both_true (left_true (is_piece y) _ all) (all_more ys x (right_true (is_piece y) _ all) one)

pub piece_is : (n : ℕ) (xs : List ℕ) → 1 ≤ length xs → length xs ≤ 4096 → is_piece (n, xs) ≡ true
piece_is n xs some few = both_true (le-leb 1 (length xs) some) (le-leb (length xs) 4096 few)

-- a piece more, or none
pub garbled_on : (old new : List (ℕ × List ℕ)) (x : ℕ × List ℕ) (r : Result Unit NoMemory) → all_of old is_piece ≡ true → is_piece x ≡ true
    → OnOk r (new ≡ old ++ x ∷ []) → OnErr r (new ≡ old) → all_of new is_piece ≡ true
garbled_on old new x (Ok u) all one ok err = subst (λ (xs : List (ℕ × List ℕ)). all_of xs is_piece ≡ true) (sym ok) (all_more old x all one)
garbled_on old new x (Err e) all one ok err = subst (λ (xs : List (ℕ × List ℕ)). all_of xs is_piece ≡ true) (sym err) all
