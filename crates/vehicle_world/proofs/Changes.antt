-- Lists that are changed place by place, and what their items stand for.
use Rattle.std.proofs.Common.{◌≡◌, ℕ, zero, suc, ◌+◌, ◌<◌, List, [], ◌∷◌, ◌++◌, length, take, drop, map, set, get_or, refl, sym, ◌∙◌, ap, subst, arith, add-one}
use Rattle.std.proofs.lemmas.List.{length-map, map-set}
use Rattle.gateway_sim.proofs.Lists.{one_changed}
use Rattle.vehicle_world.specs.Holding.{AllBelow}
use Rattle.vehicle_world.specs.declared.held.Held.{Held}

pub got : {S T : Type 0} (f : S → T) (xs : List S) (i : ℕ) (d : S) → get_or (map f xs) i (f d) ≡ f (get_or xs i d)
got f [] i d = refl
got f (x ∷ xs) zero d = refl
got f (x ∷ xs) (suc i) d = got f xs i d

pub changed : {S T : Type 0} (f : S → T) (g : T → T) (items first : List S) (i : ℕ) (x w : S) → map f items ≡ map g (take i (map f first)) ++ drop i (map f first) → i < length first → x ≡ get_or items i x → f w ≡ g (f x)
    → map f (set items i w) ≡ map g (take (i + 1) (map f first)) ++ drop (i + 1) (map f first)
changed f g items first i x w so lt is new =
    map-set f items i w
    ∙ one_changed g (map f items) (map f first) i (f x) (f w) so (omega (arith, lt, length-map first f)) (new ∙ ap (λ y. g (f y)) is ∙ ap g (sym (got f items i x)))

below_set : (i : ℕ) (items : List Held) (w : Held) → AllBelow (drop i items) → AllBelow (drop (suc i) (set items i w))
below_set zero [] w below = tt
below_set zero (h ∷ hs) w below = below.1
below_set (suc i) [] w below = tt
below_set (suc i) (h ∷ hs) w below = below_set i hs w below

pub below_more : (i : ℕ) (items : List Held) (w : Held) → AllBelow (drop i items) → AllBelow (drop (i + 1) (set items i w))
below_more i items w below = subst (λ (n : ℕ). AllBelow (drop n (set items i w))) (sym (add-one i)) (below_set i items w below)
