-- What a file says can be said.
use Rattle.std.proofs.Common.{◌≡◌, inl, inr, ℕ, zero, suc, ◌+◌, ◌<◌, ◌≤◌, Bool, true, false, List, [], ◌∷◌, ◌++◌, Option, Some, None, length, append_assoc, refl, sym, ◌∙◌, ap, subst, arith, map}
use Rattle.std.specs.Prelude.{◌&&◌, ◌==◌, IfOk, Ok, Err, codes, decimal, if◌then◌else◌, nat_le, nat_lt, not, IsTrue}
use Rattle.std.specs.List.{insert}
use Rattle.std.proofs.lemmas.Bool.{and_from, and_parts, cases_Bool, cases_lt, eq-eqb, leb-true, lt-ltb, ltb-false}
use Rattle.std.proofs.lemmas.List.{append-nil}
use Rattle.serde_json.specs.Data.{Data, Items, item, no_items, Members, member, no_members}
use Rattle.serde_json.specs.Find.{as_array, as_object}
use Rattle.flash_base.specs.Lists.{Each}
use Rattle.unit_model.specs.declared.spec.UnitSpec.{UnitSpec}
use Rattle.unit_model.specs.Running.{unit_of}
use Rattle.unit_sim.specs.Sims.{made_of as sim_made}
use Rattle.vehicle_file.proofs.Bounds.{always, beneath, goes, of_chosen, of_holds, of_needed, of_object}
use Rattle.vehicle_file.specs.Fields.{Reading, bytes_up_to, chosen, four, hold_to, list_of, list_with, needed, under}
use Rattle.vehicle_file.specs.Files.{MOST_MEMORY, MOST_UNITS, few_of, is_few, memory_sizes, value_in, vehicle, vehicle_from, vehicle_members, vehicle_of}
use Rattle.vehicle_file.specs.Troubles.{gate_troubles}
use Rattle.vehicle_file.specs.Units.{has_address, ident, ident_at, ident_of, idents, idents_from, idents_with, layout, new_address, past, patch, position_from, regions, rules_at, state, unit, unit_members, units, units_from}
use Rattle.vehicle_file.specs.declared.fault.BenchFault.TheVariants as bench
use Rattle.vehicle_file.specs.declared.vehicle.VehicleSpec.{VehicleSpec}
use Rattle.vehicle_text.specs.Texts.{ascend, new_from}
use Rattle.vehicle_world.specs.Shapes.{Shape, shape, shapes}
use Rattle.vehicle_world.specs.States.{unit_in}
use Rattle.vehicle_world.specs.Worlds.{Simulated, made_of}
use Rattle.world_file.proofs.Sizes.{length_shapes, new_is, shapes_in, sizes_are, true_is}
use Rattle.world_file.specs.Said.{CanBeSaid, IsSaidWorld, sizes}
use Rattle.world_file.specs.Saves.{spec_in}

abbrev Pairs : Type 0
Pairs = List (ℕ × List ℕ)

-- ------ identifiers ascend
some_same : (a b : ℕ) → Some a ≡ Some b → a ≡ b
some_same a b e = cc

none_some : (a : ℕ) → None ≡ Some a → ⊥
none_some a e = cc

false_true : false ≡ true → ⊥
false_true e = cc

-- the three ways of a test
module _ (i did : ℕ) (j : ℕ × List ℕ) (js : Pairs) where
  abbrev Rest : Option ℕ
  Rest = position_from (i + 1) did js

  below : nat_lt did j.0 ≡ true → position_from i did (j ∷ js) ≡ Some i
  below e = ap (λ (c : Bool). if c then Some i else if did == j.0 then None else Rest) e

  equal : nat_lt did j.0 ≡ false → (did == j.0) ≡ true → position_from i did (j ∷ js) ≡ None
  equal e f = ap (λ (c : Bool). if c then Some i else if did == j.0 then None else Rest) e ∙ ap (λ (c : Bool). if c then None else Rest) f

  above : nat_lt did j.0 ≡ false → (did == j.0) ≡ false → position_from i did (j ∷ js) ≡ Rest
  above e f = ap (λ (c : Bool). if c then Some i else if did == j.0 then None else Rest) e ∙ ap (λ (c : Bool). if c then None else Rest) f

further : (i did : ℕ) (js : Pairs) (k : ℕ) → position_from i did js ≡ Some k → i ≤ k
further i did [] k e = let same : i ≡ k = some_same i k e in omega (arith, same)
further i did (j ∷ js) k e = elim (cases_Bool (nat_lt did j.0)) [
  | inl lt ↦ let same : i ≡ k = some_same i k (sym (below i did j js lt) ∙ e) in omega (arith, same)
  | inr ge ↦ elim (cases_Bool (did == j.0)) [
    | inl eq ↦ absurd (none_some k (sym (equal i did j js ge eq) ∙ e))
    | inr ne ↦ let later : i + 1 ≤ k = further (i + 1) did js k (sym (above i did j js ge ne) ∙ e) in omega (arith, later)
  ]
]

over : (did j : ℕ) → nat_lt did j ≡ false → (did == j) ≡ false → j < did
over did j ge ne = elim (cases_lt j did) [
  | inl lt ↦ lt
  | inr le ↦
      let from : j ≤ did = ltb-false did j ge in
      let same : did ≡ j = omega (arith, le, from) in
      absurd (false_true (sym ne ∙ eq-eqb did j same))
]

abbrev Up : Pairs → Type 0
Up is = ascend is ≡ true

after : (m : ℕ × List ℕ) (i did : ℕ) (bs : List ℕ) (js : Pairs) (k : ℕ) → position_from i did js ≡ Some (i + k) → m.0 < did → Up (m ∷ js) → Up (m ∷ insert js k (did, bs))
after m i did bs [] zero e lt up = and_from (nat_lt m.0 did) true (lt-ltb m.0 did lt) refl
after m i did bs [] (suc k) e lt up = let same : i ≡ i + suc k = some_same i (i + suc k) e in absurd (omega (arith, same))
after m i did bs (j ∷ js) zero e lt up = elim (cases_Bool (nat_lt did j.0)) [
  | inl b ↦ and_from (nat_lt m.0 did) (nat_lt did j.0 && ascend (j ∷ js)) (lt-ltb m.0 did lt) (and_from (nat_lt did j.0) (ascend (j ∷ js)) b (and_parts (nat_lt m.0 j.0) (ascend (j ∷ js)) up).1)
  | inr ge ↦ elim (cases_Bool (did == j.0)) [
    | inl eq ↦ absurd (none_some (i + zero) (sym (equal i did j js ge eq) ∙ e))
    | inr ne ↦ let later : i + 1 ≤ i + zero = further (i + 1) did js (i + zero) (sym (above i did j js ge ne) ∙ e) in absurd (omega (arith, later))
  ]
]
after m i did bs (j ∷ js) (suc k) e lt up = elim (cases_Bool (nat_lt did j.0)) [
  | inl b ↦ let same : i ≡ i + suc k = some_same i (i + suc k) (sym (below i did j js b) ∙ e) in absurd (omega (arith, same))
  | inr ge ↦ elim (cases_Bool (did == j.0)) [
    | inl eq ↦ absurd (none_some (i + suc k) (sym (equal i did j js ge eq) ∙ e))
    | inr ne ↦
        let parts = and_parts (nat_lt m.0 j.0) (ascend (j ∷ js)) up in
        let number : i + suc k ≡ i + 1 + k = omega arith in
        and_from (nat_lt m.0 j.0) (ascend (j ∷ insert js k (did, bs))) parts.0
        (after j (i + 1) did bs js k (sym (above i did j js ge ne) ∙ e ∙ ap Some number) (over did j.0 ge ne) parts.1)
  ]
]

put_up : (did : ℕ) (bs : List ℕ) (is : Pairs) (k : ℕ) → position_from 0 did is ≡ Some k → Up is → Up (insert is k (did, bs))
put_up did bs [] zero e up = refl
put_up did bs [] (suc k) e up = let same : 0 ≡ suc k = some_same 0 (suc k) e in absurd (omega (arith, same))
put_up did bs (j ∷ js) zero e up = elim (cases_Bool (nat_lt did j.0)) [
  | inl b ↦ and_from (nat_lt did j.0) (ascend (j ∷ js)) b up
  | inr ge ↦ elim (cases_Bool (did == j.0)) [
    | inl eq ↦ absurd (none_some zero (sym (equal 0 did j js ge eq) ∙ e))
    | inr ne ↦ let later : 0 + 1 ≤ zero = further (0 + 1) did js zero (sym (above 0 did j js ge ne) ∙ e) in absurd (omega (arith, later))
  ]
]
put_up did bs (j ∷ js) (suc k) e up = elim (cases_Bool (nat_lt did j.0)) [
  | inl b ↦ let same : 0 ≡ suc k = some_same 0 (suc k) (sym (below 0 did j js b) ∙ e) in absurd (omega (arith, same))
  | inr ge ↦ elim (cases_Bool (did == j.0)) [
    | inl eq ↦ absurd (none_some (suc k) (sym (equal 0 did j js ge eq) ∙ e))
    | inr ne ↦
        let number : suc k ≡ 0 + 1 + k = omega arith in
        after j (0 + 1) did bs js k (sym (above 0 did j js ge ne) ∙ e ∙ ap Some number) (over did j.0 ge ne) up
  ]
]

ident_put : (did : ℕ) (o : Option ℕ) (before : Pairs) (d : Data) → position_from 0 did before ≡ o → Up before → IfOk (ident_at did o before d) Up
ident_put did None before d e up = tt
ident_put did (Some k) before d e up = always Up (bytes_up_to 4096 d) (λ bs. Ok (insert before k (did, bs))) (λ bs. put_up did bs before k e up)

ident_up : (did : Option ℕ) (before : Pairs) (d : Data) → Up before → IfOk (ident_of did before d) Up
ident_up None before d up = tt
ident_up (Some did) before d up = ident_put did (position_from 0 did before) before d refl up

idents_up : (before : Pairs) (ms : Members) → Up before → IfOk (idents_from before ms) Up
idents_up before no_members up = up
idents_up before (member k d ms) up =
    goes Up Up (ident k before d) (λ next. idents_from next ms) (beneath Up k _ (ident_up _ before d up)) (λ next more. idents_up next ms more)

idents_in : (d : Data) → IfOk (idents d) Up
idents_in d = go (as_object d)
  where
    go : (o : Option Members) → IfOk (idents_with o) Up
    go None = tt
    go (Some ms) = idents_up [] ms refl

-- ------ a unit
pub record IsNew (before : List UnitSpec) (address : ℕ) (is : Pairs) : Type 0 where
  pub address_new : has_address address before ≡ false
  pub up : ascend is ≡ true

not_true : (b : Bool) → not b ≡ true → b ≡ false
not_true false e = refl
not_true true e = absurd (false_true e)

new_in : (before : List UnitSpec) (d : Data) → IfOk (new_address before d) (λ a. has_address a before ≡ false)
new_in before d = always (λ a. has_address a before ≡ false) (four d) (λ a. hold_to (not (has_address a before)) a)
    (λ a. of_holds (λ b. has_address b before ≡ false) (not (has_address a before)) a (λ e. not_true (has_address a before) e))

layout_in : (before : List UnitSpec) (o : Data) → IfOk (layout before o) (λ l. IsNew before l.address l.idents)
layout_in before o =
    goes (λ a. has_address a before ≡ false) (λ l. IsNew before l.address l.idents) (needed (codes "address") (new_address before) o) _ (of_needed (λ a. has_address a before ≡ false) (codes "address") (new_address before) o (new_in before)) (λ address new.
    always (λ l. IsNew before l.address l.idents) (needed (codes "regions") regions o) _ (λ rs.
    always (λ l. IsNew before l.address l.idents) (chosen (codes "bytes") [] (list_of (patch rs)) o) _ (λ bytes.
    goes Up (λ l. IsNew before l.address l.idents) (chosen (codes "idents") [] idents o) _ (of_chosen Up (codes "idents") [] idents o refl idents_in) (λ is up.
    record { address_new = new; up = up }))))

abbrev NewUnit : List UnitSpec → UnitSpec → Type 0
NewUnit before u = IsNew before u.address u.idents

unit_new : (before : List UnitSpec) (d : Data) → IfOk (unit before d) (NewUnit before)
unit_new before d = of_object (NewUnit before) _ (unit_members before) d
    (goes (λ l. IsNew before l.address l.idents) (NewUnit before) (layout before d) _ (layout_in before d) (λ l new.
    always (NewUnit before) (rules_at d) _ (λ r. always (NewUnit before) (past d) _ (λ p. always (NewUnit before) (state l.regions d) _ (λ s. record { address_new = new.address_new; up = new.up })))))

-- ------ units
pub record AreNew (us : List UnitSpec) : Type 0 where
  pub addresses : new_from [] us ≡ true
  pub idents : Each (λ (u : UnitSpec). ascend u.idents ≡ true) us

new_more : (front us : List UnitSpec) (u : UnitSpec) → new_from front us ≡ true → has_address u.address (front ++ us) ≡ false → new_from front (us ++ u ∷ []) ≡ true
new_more front [] u all new = and_from (not (has_address u.address front)) true (ap not (ap (has_address u.address) (sym (append-nil front)) ∙ new)) refl
new_more front (v ∷ us) u all new =
    let parts = and_parts (not (has_address v.address front)) (new_from (front ++ v ∷ []) us) all in
    and_from (not (has_address v.address front)) (new_from (front ++ v ∷ []) (us ++ u ∷ [])) parts.0
    (new_more (front ++ v ∷ []) us u parts.1 (ap (has_address u.address) (append_assoc front (v ∷ []) us) ∙ new))

each_more : {A : Type 0} (P : A → Type 0) (xs : List A) (x : A) → Each P xs → P x → Each P (xs ++ x ∷ [])
each_more P [] x all p = (p, tt)
each_more P (y ∷ ys) x all p = (all.0, each_more P ys x all.1 p)

units_new : (before : List UnitSpec) (i : ℕ) (ds : Items) → AreNew before → IfOk (units_from before i ds) AreNew
units_new before i no_items are = are
units_new before i (item d ds) are =
    goes (NewUnit before) AreNew (under (decimal i) (unit before d)) (λ u. units_from (before ++ u ∷ []) (i + 1) ds) (beneath (NewUnit before) (decimal i) (unit before d) (unit_new before d))
    (λ u new. units_new (before ++ u ∷ []) (i + 1) ds (record {
      addresses = new_more [] before u are.addresses new.address_new;
      idents = each_more (λ (w : UnitSpec). ascend w.idents ≡ true) before u are.idents new.up;
    }))

units_in : (d : Data) → IfOk (units d) AreNew
units_in d = go (as_array d)
  where
    go : (ds : Option Items) → IfOk (list_with (units_from [] 0) ds) AreNew
    go None = tt
    go (Some ds) = units_new [] 0 ds (record { addresses = refl; idents = tt })

-- ------ the whole
abbrev VehicleNew : VehicleSpec → Type 0
VehicleNew v = AreNew v.units

vehicle_in : (d : Data) → IfOk (vehicle d) VehicleNew
vehicle_in d = of_object VehicleNew _ vehicle_members d
    (always VehicleNew (needed (codes "entity") four d) _ (λ entity.
    goes AreNew VehicleNew (needed (codes "units") units d) _ (of_needed AreNew (codes "units") units d units_in) (λ us are.
    always VehicleNew (chosen (codes "gateway") [] gate_troubles d) _ (λ ts. are))))

abbrev Can : VehicleSpec → Type 0
Can v = CanBeSaid (shapes_in v.units)

each_up : (us : List UnitSpec) → Each (λ (u : UnitSpec). ascend u.idents ≡ true) us → Each (λ (s : Shape). IsTrue (ascend s.idents)) (shapes_in us)
each_up [] all = tt
each_up (u ∷ us) all = (true_is (ascend u.idents) all.0, each_up us all.1)

can_be : (v : VehicleSpec) → AreNew v.units → is_few v ≡ true → Can v
can_be v are few =
    let parts = and_parts (nat_le (length v.units) MOST_UNITS) (nat_le (memory_sizes v.units) MOST_MEMORY) few in
    let count : length v.units ≤ MOST_UNITS = leb-true (length v.units) MOST_UNITS parts.0 in
    let bytes : memory_sizes v.units ≤ MOST_MEMORY = leb-true (memory_sizes v.units) MOST_MEMORY parts.1 in
    let same : length (shapes_in v.units) ≡ length v.units = length_shapes v.units in
    let sized : sizes (shapes_in v.units) ≡ memory_sizes v.units = sizes_are v.units in
    record {
      units = omega (arith, same, count);
      memory = omega (arith, sized, bytes);
      addresses = true_is _ (sym (new_is [] v.units) ∙ are.addresses);
      idents = each_up v.units are.idents;
    }

few_in : (r : Reading VehicleSpec) → IfOk r VehicleNew → IfOk (few_of r) Can
few_in (Err e) are = tt
few_in (Ok v) are = go (is_few v) refl
  where
    go : (b : Bool) → is_few v ≡ b → IfOk (if b then Ok v else Err bench.TooMany) Can
    go true e = can_be v are e
    go false e = tt

read_can : (bytes : List ℕ) → IfOk (vehicle_of bytes) Can
read_can bytes = go (value_in bytes)
  where
    go : (o : Option Data) → IfOk (vehicle_from o) Can
    go None = tt
    go (Some d) = few_in (vehicle d) (vehicle_in d)

made_shapes : (us : List UnitSpec) → map shape (map unit_in (map sim_made us)) ≡ shapes_in us
made_shapes [] = refl
made_shapes (u ∷ us) = ap (λ (ss : List Shape). shape (unit_of u) ∷ ss) (made_shapes us)

-- a world that is made of what a file says
pub said : (bytes : List ℕ) (v : VehicleSpec) (w : Simulated) → vehicle_of bytes ≡ Ok v → w ≡ made_of (spec_in v) → IsSaidWorld w
said bytes v w e is =
    let can : Can v = subst (λ r. IfOk r Can) e (read_can bytes) in
    subst CanBeSaid (sym (made_shapes v.units) ∙ ap (λ (x : Simulated). shapes x.vehicle) (sym is)) can
