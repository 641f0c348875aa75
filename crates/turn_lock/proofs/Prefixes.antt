-- Lists that begin others, and the longer of two that begin the same.
use Rattle.std.proofs.Common.{◌≡◌, ℕ, zero, suc, ◌+◌, ◌<◌, ◌≤◌, slice_get, List, [], ◌∷◌, ◌++◌, length, refl, sym, ap, ◌∙◌, arith, append_assoc, append-nil, length-append}
use Rattle.std.specs.Prelude.{Bool, true, false, nat_lt, if◌then◌else◌}
use mathlib.Core.Logic.{⊎_elim, ◌⊎◌}
use Rattle.turn_lock.specs.Lists.{Begins, longer}

module _ {A : Type 0} where
  pub begins-refl : (xs : List A) → Begins xs xs
  begins-refl xs = ([], sym (append-nil xs))

  pub begins-nil : (xs : List A) → Begins [] xs
  begins-nil xs = (xs, refl)

  pub begins-trans : (xs ys zs : List A) → Begins xs ys → Begins ys zs → Begins xs zs
  begins-trans xs ys zs a b = (a.0 ++ b.0, b.1 ∙ ap (λ l. l ++ b.0) a.1 ∙ append_assoc xs a.0 b.0)

  pub begins-length : (xs ys : List A) → Begins xs ys → length xs ≤ length ys
  begins-length xs ys a = let e : length ys ≡ length xs + length a.0 = ap length a.1 ∙ length-append xs a.0 in omega arith

  abbrev head_or : A → List A → A
  head_or d [] = d
  head_or d (x ∷ xs) = x

  abbrev tail : List A → List A
  tail [] = []
  tail (x ∷ xs) = xs

  -- of two lists that begin the same list, the shorter begins the longer
  pub begins-between : (xs ys l : List A) → Begins xs l → Begins ys l → length xs ≤ length ys → Begins xs ys
  begins-between [] ys l a b le = begins-nil ys
  begins-between (x ∷ xs) [] l a b le = absurd (let bad : ⊥ = omega arith in bad)
  begins-between (x ∷ xs) (y ∷ ys) l a b le =
      let same : y ∷ ys ++ b.0 ≡ x ∷ xs ++ a.0 = sym b.1 ∙ a.1 in
      let rest = begins-between xs ys (xs ++ a.0) (a.0, refl) (b.0, sym (ap tail same)) (omega arith) in
      (rest.0, λ i. ap (head_or x) same i ∷ rest.1 i)

  pub longer-begins : (xs ys l : List A) → Begins xs l → Begins ys l → Begins (longer xs ys) l × Begins xs (longer xs ys) × Begins ys (longer xs ys)
  longer-begins xs ys l a b = go (nat_lt (length xs) (length ys)) refl
    where
      go : (t : Bool) → nat_lt (length xs) (length ys) ≡ t → Begins (if t then ys else xs) l × Begins xs (if t then ys else xs) × Begins ys (if t then ys else xs)
      go true e = (b, begins-between xs ys l a b (grind (arith, e)), begins-refl ys)
      go false e = (a, begins-refl xs, begins-between ys xs l b a (grind (arith, e)))

  pub begins-same_length : (xs ys : List A) → Begins xs ys → length ys ≤ length xs → xs ≡ ys
  begins-same_length xs ys a le = go a.0 a.1
    where
      go : (more : List A) → ys ≡ xs ++ more → xs ≡ ys
      go [] e = sym (append-nil xs) ∙ sym e
      go (z ∷ more) e = let long : length ys ≡ length xs + suc (length more) = ap length e ∙ length-append xs (z ∷ more) in absurd (let bad : ⊥ = omega arith in bad)

  -- the whole list, where one of two that begin it is the whole
  pub longer-all : (xs ys l : List A) → Begins xs l → Begins ys l → (xs ≡ l) ⊎ (ys ≡ l) → longer xs ys ≡ l
  longer-all xs ys l a b whole =
      let lo = longer-begins xs ys l a b in let p = begins-length _ _ lo.1 in let q = begins-length _ _ lo.2 in
      begins-same_length (longer xs ys) l lo.0 (⊎_elim
      (λ (e : xs ≡ l). let n : length xs ≡ length l = ap length e in let r : length l ≤ length (longer xs ys) = omega arith in r)
      (λ (e : ys ≡ l). let n : length ys ≡ length l = ap length e in let r : length l ≤ length (longer xs ys) = omega arith in r) whole)

pub begins-at : {A : Type 0} (xs ys : List A) (p : ℕ) → Begins xs ys → p < length xs → slice_get ys p ≡ slice_get xs p
begins-at {A} xs ys p b lt = ap (λ (l : List A). slice_get l p) b.1 ∙ front xs b.0 p lt
  where
    front : (xs zs : List A) (p : ℕ) → p < length xs → slice_get (xs ++ zs) p ≡ slice_get xs p
    front [] zs p lt = absurd (let bad : ⊥ = omega arith in bad)
    front (x ∷ xs) zs zero lt = refl
    front (x ∷ xs) zs (suc p) lt = front xs zs p (omega arith)
