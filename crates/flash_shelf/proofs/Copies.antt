-- A list that is copied item by item.
use Rattle.std.proofs.Common.{◌≡◌, ℕ, zero, suc, ◌+◌, ◌<◌, List, [], ◌∷◌, ◌++◌, length, take, slice_get, get_or, Some, refl, sym, ◌∙◌, ap}
use Rattle.std.proofs.lemmas.List.{take_more}

get_or-get : {X : Type 0} (xs : List X) (i : ℕ) (x : X) → slice_get xs i ≡ Some x → get_or xs i x ≡ x
get_or-get [] i x h = refl
get_or-get (y ∷ ys) zero x h = cc
get_or-get (y ∷ ys) (suc i) x h = get_or-get ys i x h

pub copy_more : {X : Type 0} (xs old new : List X) (i : ℕ) (x y : X) → i < length xs → slice_get xs i ≡ Some x → old ≡ take i xs → y ≡ x → new ≡ old ++ y ∷ [] → new ≡ take (i + 1) xs
copy_more xs old new i x y lt at so same is = rw (is, so, same) (sym (take_more xs i x lt ∙ ap (λ z. take i xs ++ z ∷ []) (get_or-get xs i x at)))
