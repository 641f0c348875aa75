-- Lists that are made item by item.
use Rattle.std.proofs.Common.{◌≡◌, ℕ, ◌+◌, ◌≤◌, List, [], ◌∷◌, ◌++◌, map, max, false, Bool, ◌||◌, refl, sym, ◌∙◌, ap, arith}
use Rattle.std.specs.List.{range_with_len}
use Rattle.std.proofs.lemmas.List.FromFn.{map-range_with_len_more}
use Rattle.std.proofs.lemmas.List.{map-append}
use Rattle.serde_json.specs.Data.{Data, depth, items_depth}
use Rattle.serde_json.specs.View.{items_of, view}
use Rattle.serde_json.specs.Written.{has_float, items_have_float}
use Rattle.serde_json.specs.declared.value.Value.{Value}

-- one more item
pub one_more : (f : ℕ → Data) (from k : ℕ) (made : List Value) (v : Value) → map view made ≡ map f (range_with_len from k) → view v ≡ f (from + k)
    → map view (made ++ v ∷ []) ≡ map f (range_with_len from (k + 1))
one_more f from k made v so is =
    map-append view made (v ∷ []) ∙ ap (λ (ds : List Data). ds ++ view v ∷ []) so ∙ ap (λ (d : Data). map f (range_with_len from k) ++ d ∷ []) is
    ∙ sym (map-range_with_len_more f from k (from + k) refl)

-- the list with one more item is another's
pub made_more : (f : ℕ → Data) (from k : ℕ) (old new : List Value) (v : Value) → map view old ≡ map f (range_with_len from k) → view v ≡ f (from + k) → new ≡ old ++ v ∷ []
    → map view new ≡ map f (range_with_len from (k + 1))
made_more f from k old new v so is put = ap (map view) put ∙ one_more f from k old v so is

-- a list of which no item has a float
pub no_floats : (f : ℕ → Data) → ((k : ℕ) → has_float (f k) ≡ false) → (ks : List ℕ) → items_have_float (items_of (map f ks)) ≡ false
no_floats f each [] = refl
no_floats f each (k ∷ ks) = ap (λ (b : Bool). b || items_have_float (items_of (map f ks))) (each k) ∙ no_floats f each ks

-- items that are not deep make no deep list
pub next_flat : (most : ℕ) (d : Data) (ds : List Data) → depth d ≤ most → items_depth (items_of ds) ≤ most → items_depth (items_of (d ∷ ds)) ≤ most
next_flat most d ds a b =
    let e : items_depth (items_of (d ∷ ds)) ≡ max (depth d) (items_depth (items_of ds)) = refl in
    omega (arith, e, a, b)

pub flat_list : (most : ℕ) (f : ℕ → Data) → ((k : ℕ) → depth (f k) ≤ most) → (ks : List ℕ) → items_depth (items_of (map f ks)) ≤ most
flat_list most f each [] =
    let e : items_depth (items_of (map f [])) ≡ 0 = refl in
    omega (arith, e)
flat_list most f each (k ∷ ks) = next_flat most (f k) (map f ks) (each k) (flat_list most f each ks)
