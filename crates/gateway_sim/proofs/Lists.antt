-- A list that is changed place by place.
use Rattle.std.proofs.Common.{◌≡◌, ℕ, ◌+◌, ◌<◌, ◌≤◌, List, [], ◌∷◌, ◌++◌, length, take, drop, set, get_or, map, refl, sym, ◌∙◌, ap, arith}
use Rattle.std.proofs.lemmas.List.{append_assoc, length-append, length-map, length-take-le, length-drop, map-append, take_more, drop_more, set_at, get_or_at, take_all, drop_all, append-nil}

pub one_changed : {X : Type 0} (f : X → X) (xs ys : List X) (i : ℕ) (d w : X) → xs ≡ map f (take i ys) ++ drop i ys → i < length ys → w ≡ f (get_or xs i d) → set xs i w ≡ map f (take (i + 1) ys) ++ drop (i + 1) ys
one_changed {X} f xs ys i d w so lt is =
    let y : X = get_or ys i d in
    let front : List X = map f (take i ys) in
    let long : length front ≡ i = length-map (take i ys) f ∙ length-take-le i ys (omega (arith, lt)) in
    let split : xs ≡ front ++ (y ∷ drop (i + 1) ys) = so ∙ ap (λ (zs : List X). front ++ zs) (drop_more ys i d lt) in
    let had : get_or xs i d ≡ y = ap (λ (zs : List X). get_or zs i d) split ∙ get_or_at front y (drop (i + 1) ys) d i long in
    let new : w ≡ f y = is ∙ ap f had in
    (λ k. set (split k) i (new k))
    ∙ set_at front y (drop (i + 1) ys) (f y) i long
    ∙ sym (append_assoc front (f y ∷ []) (drop (i + 1) ys))
    ∙ ap (λ (zs : List X). zs ++ drop (i + 1) ys) (sym (map-append f (take i ys) (y ∷ [])) ∙ ap (map f) (sym (take_more ys i d lt)))

pub all_changed : {X : Type 0} (f : X → X) (xs ys : List X) (i : ℕ) → xs ≡ map f (take i ys) ++ drop i ys → length ys ≤ i → xs ≡ map f ys
all_changed {X} f xs ys i so past =
    so ∙ (λ k. map f (take_all i ys past k) ++ drop_all i ys past k) ∙ append-nil (map f ys)
