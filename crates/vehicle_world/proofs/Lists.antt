-- Lists, item by item, and lists whose items stand for others.
use Rattle.std.specs.Prelude.{Bool, filter}
use Rattle.std.proofs.lemmas.Bool.{cases_Bool}
use Rattle.std.proofs.Common.{◌≡◌, inl, inr, ℕ, ◌+◌, ◌<◌, List, [], ◌∷◌, ◌++◌, length, drop, map, get_or, refl, sym, ◌∙◌, ap, subst}
use Rattle.std.proofs.lemmas.List.{drop_more}
use Rattle.flash_base.specs.Lists.{Each}

pub each_more : {T : Type 0} (P : T → Type 0) (xs : List T) (x : T) → Each P xs → P x → Each P (xs ++ x ∷ [])
each_more P [] x are is = (is, tt)
each_more P (y ∷ ys) x are is = (are.0, each_more P ys x are.1 is)

-- the first of what is left
pub each_next : {T : Type 0} (P : T → Type 0) (xs : List T) (i : ℕ) (x : T) → i < length xs → x ≡ get_or xs i x → Each P (drop i xs) → P x × Each P (drop (i + 1) xs)
each_next P xs i x lt is are =
    let next = subst (Each P) (drop_more xs i x lt) are in
    (subst P (sym is) next.0, next.1)

-- an element more is what it stands for
pub mapped_next : {S T : Type 0} (f : S → T) (xs : List S) (i : ℕ) (x : S) → i < length xs → x ≡ get_or xs i x → map f (drop i xs) ≡ f x ∷ map f (drop (i + 1) xs)
mapped_next f xs i x lt is = ap (map f) (drop_more xs i x lt) ∙ ap (λ y. f y ∷ map f (drop (i + 1) xs)) (sym is)

-- those that pass, and what they stand for
pub mapped_filter : {S T : Type 0} (f : S → T) (p : T → Bool) (xs : List S) → map f (filter (λ x. p (f x)) xs) ≡ filter p (map f xs)
mapped_filter f p [] = refl
mapped_filter f p (x ∷ xs) = elim (cases_Bool (p (f x))) [
  | inl e ↦ rw e (ap (λ ys. f x ∷ ys) (mapped_filter f p xs))
  | inr e ↦ rw e (mapped_filter f p xs)
]
