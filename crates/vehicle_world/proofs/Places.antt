-- Units by their addresses.
use Rattle.std.proofs.Common.{◌≡◌, inl, inr, ℕ, suc, ◌+◌, ◌<◌, true, false, List, [], ◌∷◌, length, map, set, get_or, Some, None, Option, refl, sym, ◌∙◌, ap, subst, arith}
use Rattle.std.specs.Prelude.{Bool, ◌==◌, option_map, is_some, if◌then◌else◌}
use Rattle.std.proofs.lemmas.Bool.{cases_Bool}
use Rattle.std.proofs.lemmas.List.{length-map, map-set}
use Rattle.unit_model.specs.Feed.{with_unit}
use Rattle.unit_model.specs.Unit.{ControlUnit}
use Rattle.unit_model.specs.Vehicle.{unit_at}
use Rattle.unit_sim.specs.Sims.{Sim}
use Rattle.vehicle_world.specs.States.{change_at, node_sim, place_from, sim_at, unit_in}
use Rattle.vehicle_world.specs.declared.node.Node.{Node}
use Rattle.vehicle_world.proofs.Changes.{got}

-- the first unit with the address stands at this place
pub record FoundAt (t : ℕ) (ss : List Sim) (i : ℕ) : Type 0 where
  pub there : Sim
  pub within : i < length ss
  pub is : (d : Sim) → get_or ss i d ≡ there
  pub at : sim_at t ss ≡ Some there
  pub change : (f : Sim → Sim) → set ss i (f there) ≡ change_at t f ss

-- found behind so many
pub record FoundFrom (n t : ℕ) (ss : List Sim) (k : ℕ) : Type 0 where
  pub place : ℕ
  pub sum : k ≡ n + place
  pub found : FoundAt t ss place

some_is : {T : Type 0} (x y : T) → Some x ≡ Some y → x ≡ y
some_is x y e = cc

none_some : {T : Type 0} (x : T) → None ≡ Some x → ⊥
none_some x e = let p : ⊥ = cc in p

found_first : (n t : ℕ) (s : Sim) (ss : List Sim) (k : ℕ) → (s.unit.address == t) ≡ true → n ≡ k → FoundFrom n t (s ∷ ss) k
found_first n t s ss k e is = record {
  place = 0;
  sum = sym is ∙ omega arith;
  found = record {
    there = s;
    within = omega arith;
    is = λ d. refl;
    at = rw e refl;
    change = λ f. rw e refl;
  };
}

found_next : (n t : ℕ) (s : Sim) (ss : List Sim) (k : ℕ) → (s.unit.address == t) ≡ false → FoundFrom (suc n) t ss k → FoundFrom n t (s ∷ ss) k
found_next n t s ss k e f = record {
  place = suc f.place;
  sum = omega (arith, f.sum);
  found = record {
    there = f.found.there;
    within = omega (arith, f.found.within);
    is = f.found.is;
    at = rw e f.found.at;
    change = λ g. rw e (ap (λ (xs : List Sim). s ∷ xs) (f.found.change g));
  };
}

found_from : (n t : ℕ) (ss : List Sim) (k : ℕ) → place_from n t ss ≡ Some k → FoundFrom n t ss k
found_from n t [] k e = absurd (none_some k e)
found_from n t (s ∷ ss) k e = elim (cases_Bool (s.unit.address == t)) [
  | inl y ↦ found_first n t s ss k y (some_is n k (ap (λ (b : Bool). if b then Some n else place_from (suc n) t ss) (sym y) ∙ e))
  | inr z ↦ found_next n t s ss k z (found_from (suc n) t ss k (ap (λ (b : Bool). if b then Some n else place_from (suc n) t ss) (sym z) ∙ e))
]

pub found_at : (t : ℕ) (ss : List Sim) (i : ℕ) → place_from 0 t ss ≡ Some i → FoundAt t ss i
found_at t ss i e =
    let f : FoundFrom 0 t ss i = found_from 0 t ss i e in
    let same : f.place ≡ i = omega (arith, f.sum) in
    subst (FoundAt t ss) same f.found

-- there is none
pub record NoneAt (t : ℕ) (ss : List Sim) : Type 0 where
  pub at : sim_at t ss ≡ None
  pub change : (f : Sim → Sim) → change_at t f ss ≡ ss

none_from : (n t : ℕ) (ss : List Sim) → place_from n t ss ≡ None → NoneAt t ss
none_from n t [] e = record { at = refl; change = λ f. refl }
none_from n t (s ∷ ss) e = elim (cases_Bool (s.unit.address == t)) [
  | inl y ↦ absurd (none_some n (sym e ∙ ap (λ (b : Bool). if b then Some n else place_from (suc n) t ss) y))
  | inr z ↦
      let more : NoneAt t ss = none_from (suc n) t ss (ap (λ (b : Bool). if b then Some n else place_from (suc n) t ss) (sym z) ∙ e) in
      record { at = rw z more.at; change = λ f. rw z (ap (λ (xs : List Sim). s ∷ xs) (more.change f)) }
]

pub none_at : (t : ℕ) (ss : List Sim) → place_from 0 t ss ≡ None → NoneAt t ss
none_at t ss e = none_from 0 t ss e

-- a place or none
pub there_is : (t : ℕ) (ss : List Sim) (o : Option ℕ) → place_from 0 t ss ≡ o → is_some o ≡ is_some (sim_at t ss)
there_is t ss None e = ap is_some (sym (none_at t ss e).at)
there_is t ss (Some i) e = ap is_some (sym (found_at t ss i e).at)

-- ------ the units of a vehicle
pub units_at : (t : ℕ) (ss : List Sim) → unit_at (map unit_in ss) t ≡ option_map unit_in (sim_at t ss)
units_at t [] = refl
units_at t (s ∷ ss) = elim (cases_Bool (s.unit.address == t)) [ inl e ↦ rw e refl | inr e ↦ rw e (units_at t ss) ]

pub units_with : (t : ℕ) (f : Sim → Sim) (ss : List Sim) (u : Sim) → sim_at t ss ≡ Some u → with_unit (map unit_in ss) t (f u).unit ≡ map unit_in (change_at t f ss)
units_with t f [] u e = absurd (none_some u e)
units_with t f (s ∷ ss) u e = elim (cases_Bool (s.unit.address == t)) [
  | inl y ↦
      let same : s ≡ u = some_is s u (ap (λ (b : Bool). if b then Some s else sim_at t ss) (sym y) ∙ e) in
      rw y (ap (λ (v : Sim). (f v).unit ∷ map unit_in ss) (sym same))
  | inr z ↦
      let there : sim_at t ss ≡ Some u = ap (λ (b : Bool). if b then Some s else sim_at t ss) (sym z) ∙ e in
      rw z (ap (λ (xs : List ControlUnit). s.unit ∷ xs) (units_with t f ss u there))
]

-- ------ in a list of nodes
pub in_nodes : (t : ℕ) (items seen : List Node) (o : Option ℕ) (i : ℕ) → seen ≡ items → o ≡ place_from 0 t (map node_sim seen) → o ≡ Some i → FoundAt t (map node_sim items) i
in_nodes t items seen o i same is found = found_at t (map node_sim items) i (ap (λ (ns : List Node). place_from 0 t (map node_sim ns)) (sym same) ∙ sym is ∙ found)

pub not_in_nodes : (t : ℕ) (items seen : List Node) (o : Option ℕ) → seen ≡ items → o ≡ place_from 0 t (map node_sim seen) → o ≡ None → NoneAt t (map node_sim items)
not_in_nodes t items seen o same is found = none_at t (map node_sim items) (ap (λ (ns : List Node). place_from 0 t (map node_sim ns)) (sym same) ∙ sym is ∙ found)

pub there_in : (t : ℕ) (items : List Node) (i : ℕ) (x : Node) → (f : FoundAt t (map node_sim items) i) → x ≡ get_or items i x → node_sim x ≡ f.there
there_in t items i x f is = ap node_sim is ∙ sym (got node_sim items i x) ∙ f.is (node_sim x)

pub within_nodes : (t : ℕ) (items : List Node) (i : ℕ) → FoundAt t (map node_sim items) i → i < length items
within_nodes t items i f = omega (arith, f.within, length-map items node_sim)

pub put_back : (t : ℕ) (items : List Node) (i : ℕ) (g : Sim → Sim) (x w : Node) → FoundAt t (map node_sim items) i → x ≡ get_or items i x → node_sim w ≡ g (node_sim x) → map node_sim (set items i w) ≡ change_at t g (map node_sim items)
put_back t items i g x w f is new =
    map-set node_sim items i w
    ∙ ap (λ (s : Sim). set (map node_sim items) i s) (new ∙ ap g (there_in t items i x f is))
    ∙ f.change g
