-- A vehicle that was read is one that simulators may be made of.
use Rattle.std.proofs.Common.{◌≡◌, ℕ, suc, ◌+◌, ◌≤◌, Bool, true, false, List, [], ◌∷◌, ◌++◌, length, Some, None, Option, refl, ◌∙◌, ap, arith}
use Rattle.std.specs.Prelude.{Ok, Err, IfOk, ◌&&◌, ◌-◌, nat_le, nat_lt, if◌then◌else◌, codes, decimal, is_some}
use Rattle.std.proofs.lemmas.Bool.{and_from, and_parts, leb-true, lt-ltb}
use Rattle.std.proofs.lemmas.List.{length-append}
use Rattle.serde_json.specs.Data.{Data, Items, no_items, item}
use Rattle.serde_json.specs.Find.{as_array, as_object}
use Rattle.flash_base.specs.Lists.{Each}
use Rattle.flash_base.specs.ByteMaps.{has_each}
use Rattle.flash_base.specs.declared.unit.KeyRule.TheVariants.{Free}
use Rattle.unit_model.specs.Idents.{all_short}
use Rattle.unit_model.specs.Regions.{filled}
use Rattle.unit_model.specs.RegionTests.{all_apart, spec_extents}
use Rattle.unit_model.specs.Rules.{is_kind, is_range, is_rule, is_seed, all_ranges, transfer_in, all_inside}
use Rattle.unit_model.specs.Running.{IsUnitSpec}
use Rattle.unit_model.specs.Troubles.{all_troubles}
use Rattle.unit_model.specs.declared.spec.RegionSpec.{RegionSpec}
use Rattle.unit_model.specs.declared.spec.UnitSpec.{UnitSpec}
use Rattle.gateway_sim.specs.Troubles.{IsGatewaySpec, LAST_TICK, MOST_TROUBLES}
use Rattle.gateway_sim.specs.Troubles as gates
use Rattle.gateway_sim.specs.declared.spec.GatewayTrouble.{GatewayTrouble}
use Rattle.vehicle_file.specs.declared.gateway.GateDeed.{GateDeed}
use Rattle.vehicle_file.specs.declared.gateway.GateDeed.TheVariants as at_gate
use Rattle.vehicle_file.specs.declared.unit.Layout.{Layout}
use Rattle.vehicle_file.specs.declared.unit.Rules.{Rules}
use Rattle.vehicle_file.specs.declared.unit.Past.{Past}
use Rattle.vehicle_file.specs.declared.unit.State.{State}
use Rattle.vehicle_file.specs.declared.vehicle.VehicleSpec.{VehicleSpec}
use Rattle.vehicle_file.specs.Fields.{Reading, LAST_NTH, LAST_COUNT, bytes_to, chosen, entries_from, flag, four, is_off, list_of, list_with, needed, refused, two, under, whole}
use Rattle.vehicle_file.specs.Files.{IsVehicleSpec, few_of, is_few, value_in, vehicle, vehicle_members, vehicle_of, vehicle_from}
use Rattle.vehicle_file.specs.declared.fault.BenchFault.TheVariants as bench
use Rattle.serde_json.specs.Data.{Members}
use Rattle.vehicle_file.specs.Keys.{key_rule}
use Rattle.vehicle_file.specs.Troubles.{few_troubles, gate_deed, gate_members, gate_trouble, gate_trouble_members, gate_troubles, is_gate_member, item_count, troubles}
use Rattle.vehicle_file.specs.Units.{checked_range, idents, layout, new_address, past, patch, regions, rules_at, seed_given, session, state, transfer, unit, unit_members, unit_of, units, units_from}
use Rattle.vehicle_file.proofs.Bounds.{always, beneath, bytes_in, each_inside, each_range, goes, idents_in, key_in, of_chosen, of_list, of_needed, of_object, patch_in, range_in, regions_in, session_in, transfer_there, troubles_in, weaker, whole_in}

-- ------ a unit
pub record IsLayout (l : Layout) : Type 0 where
  pub regions : all_apart (spec_extents l.regions) ≡ true
  pub bytes : all_inside (filled l.regions) l.bytes ≡ true
  pub idents : all_short l.idents ≡ true

pub record IsRules (r : Rules) : Type 0 where
  pub seed : is_seed r.seed ≡ true
  pub key : is_rule r.key ≡ true

pub record IsPast (p : Past) : Type 0 where
  pub checked : all_ranges p.checked ≡ true
  pub troubles : all_troubles p.troubles ≡ true

pub record IsState (rs : List RegionSpec) (s : State) : Type 0 where
  pub kind : is_kind s.kind ≡ true
  pub transfer : transfer_in (filled rs) s.transfer ≡ true

layout_in : (before : List UnitSpec) (o : Data) → IfOk (layout before o) IsLayout
layout_in before o =
    always IsLayout (needed (codes "address") (new_address before) o) _ (λ address.
    goes (λ rs. all_apart (spec_extents rs) ≡ true) IsLayout (needed (codes "regions") regions o) _ (of_needed (λ rs. all_apart (spec_extents rs) ≡ true) (codes "regions") regions o regions_in) (λ rs apart.
    goes (λ ps. all_inside (filled rs) ps ≡ true) IsLayout (chosen (codes "bytes") [] (list_of (patch rs)) o) _ (of_chosen (λ ps. all_inside (filled rs) ps ≡ true) (codes "bytes") [] (list_of (patch rs)) o refl (patches rs)) (λ bytes inside.
    goes (λ is. all_short is ≡ true) IsLayout (chosen (codes "idents") [] idents o) _ (of_chosen (λ is. all_short is ≡ true) (codes "idents") [] idents o refl idents_in) (λ is short.
    record { regions = apart; bytes = inside; idents = short }))))
  where
    patches : (rs : List RegionSpec) (d : Data) → IfOk (list_of (patch rs) d) (λ ps. all_inside (filled rs) ps ≡ true)
    patches rs d = weaker (Each (λ p. has_each p.at (length p.bytes) (filled rs) ≡ true)) (λ ps. all_inside (filled rs) ps ≡ true) (list_of (patch rs) d) (each_inside rs) (of_list (λ p. has_each p.at (length p.bytes) (filled rs) ≡ true) (patch rs) d (patch_in rs))

rules_in : (o : Data) → IfOk (rules_at o) IsRules
rules_in o =
    goes (λ k. is_rule k ≡ true) IsRules (chosen (codes "key") Free key_rule o) _ (of_chosen (λ k. is_rule k ≡ true) (codes "key") Free key_rule o refl key_in) (λ key rule.
    goes (λ s. is_seed s ≡ true) IsRules (chosen (codes "seed") (1 ∷ []) (bytes_to 64) o) _ (of_chosen (λ s. is_seed s ≡ true) (codes "seed") (1 ∷ []) (bytes_to 64) o refl (bytes_in 64)) (λ seed size.
    always IsRules (chosen (codes "block") 4095 _ o) _ (λ block.
    always IsRules (needed (codes "check") four o) _ (λ check.
    record { seed = size; key = rule }))))

past_in : (o : Data) → IfOk (past o) IsPast
past_in o =
    goes (λ rs. all_ranges rs ≡ true) IsPast (chosen (codes "checked") [] (list_of checked_range) o) _ (of_chosen (λ rs. all_ranges rs ≡ true) (codes "checked") [] (list_of checked_range) o refl ranges) (λ checked all.
    always IsPast (chosen (codes "passed") false flag o) _ (λ passed.
    always IsPast (chosen (codes "heard") 0 (whole 0 LAST_COUNT) o) _ (λ heard.
    goes (λ ts. all_troubles ts ≡ true) IsPast (chosen (codes "troubles") [] troubles o) _ (of_chosen (λ ts. all_troubles ts ≡ true) (codes "troubles") [] troubles o refl troubles_in) (λ ts good.
    record { checked = all; troubles = good }))))
  where
    ranges : (d : Data) → IfOk (list_of checked_range d) (λ rs. all_ranges rs ≡ true)
    ranges d = weaker (Each (λ r. is_range r ≡ true)) (λ rs. all_ranges rs ≡ true) (list_of checked_range d) each_range (of_list (λ r. is_range r ≡ true) checked_range d range_in)

state_in : (rs : List RegionSpec) (o : Data) → IfOk (state rs o) (IsState rs)
state_in rs o =
    goes (λ k. is_kind k ≡ true) (IsState rs) (chosen (codes "kind") 1 session o) _ (of_chosen (λ k. is_kind k ≡ true) (codes "kind") 1 session o refl session_in) (λ kind good.
    always (IsState rs) (chosen (codes "unlocked") false flag o) _ (λ unlocked.
    always (IsState rs) (chosen (codes "last_seed") None seed_given o) _ (λ last_seed.
    goes (λ t. transfer_in (filled rs) t ≡ true) (IsState rs) (chosen (codes "transfer") None (transfer rs) o) _ (of_chosen (λ t. transfer_in (filled rs) t ≡ true) (codes "transfer") None (transfer rs) o refl (transfer_there rs)) (λ t there.
    always (IsState rs) (chosen (codes "dtc") false is_off o) _ (λ dtc_off.
    always (IsState rs) (chosen (codes "messages") false is_off o) _ (λ messages_off.
    record { kind = good; transfer = there }))))))

unit_is : (l : Layout) (r : Rules) (p : Past) (s : State) → IsLayout l → IsRules r → IsPast p → IsState l.regions s → IsUnitSpec (unit_of l r p s)
unit_is l r p s il ir ip is = record {
  regions = il.regions;
  bytes = il.bytes;
  idents = il.idents;
  seed = ir.seed;
  key = ir.key;
  checked = ip.checked;
  kind = is.kind;
  transfer = is.transfer;
  troubles = ip.troubles;
}

unit_in : (before : List UnitSpec) (d : Data) → IfOk (unit before d) IsUnitSpec
unit_in before d = of_object IsUnitSpec _ (unit_members before) d
    (goes IsLayout IsUnitSpec (layout before d) _ (layout_in before d) (λ l il.
    goes IsRules IsUnitSpec (rules_at d) _ (rules_in d) (λ r ir.
    goes IsPast IsUnitSpec (past d) _ (past_in d) (λ p ip.
    goes (IsState l.regions) IsUnitSpec (state l.regions d) _ (state_in l.regions d) (λ s is.
    unit_is l r p s il ir ip is)))))

each_more : {A : Type 0} (P : A → Type 0) (xs : List A) (x : A) → Each P xs → P x → Each P (xs ++ x ∷ [])
each_more P [] x all p = (p, tt)
each_more P (y ∷ ys) x all p = (all.0, each_more P ys x all.1 p)

units_are : (before : List UnitSpec) (i : ℕ) (ds : Items) → Each IsUnitSpec before → IfOk (units_from before i ds) (Each IsUnitSpec)
units_are before i no_items all = all
units_are before i (item d ds) all =
    goes IsUnitSpec (Each IsUnitSpec) (under (decimal i) (unit before d)) (λ u. units_from (before ++ u ∷ []) (i + 1) ds) (beneath IsUnitSpec (decimal i) (unit before d) (unit_in before d))
    (λ u is. units_are (before ++ u ∷ []) (i + 1) ds (each_more IsUnitSpec before u all is))

units_in : (d : Data) → IfOk (units d) (Each IsUnitSpec)
units_in d = go (as_array d)
  where
    go : (ds : Option Items) → IfOk (list_with (units_from [] 0) ds) (Each IsUnitSpec)
    go None = tt
    go (Some ds) = units_are [] 0 ds tt

-- ------ the gateway
abbrev IsGood : GatewayTrouble → Type 0
IsGood t = gates.is_trouble t ≡ true

nth_some : (nth : ℕ) → (nat_le 1 nth && nat_le nth LAST_NTH) ≡ true → nat_le 1 nth ≡ true
nth_some nth both = (and_parts (nat_le 1 nth) (nat_le nth LAST_NTH) both).0

tick_low : (tick : ℕ) → (nat_le 0 tick && nat_le tick (LAST_TICK - 1)) ≡ true → nat_lt tick LAST_TICK ≡ true
tick_low tick both =
    let le : tick ≤ 9223372036854775807 = leb-true tick 9223372036854775807 (and_parts (nat_le 0 tick) (nat_le tick (LAST_TICK - 1)) both).1 in
    lt-ltb tick 9223372036854775808 (omega (arith, le))

act_good : (doing : GateDeed) (d : Data) → IfOk (gate_members doing d) IsGood
act_good at_gate.Deny d =
    goes (λ n. (nat_le 1 n && nat_le n LAST_NTH) ≡ true) IsGood (needed (codes "nth") (whole 1 LAST_NTH) d) _ (of_needed (λ n. (nat_le 1 n && nat_le n LAST_NTH) ≡ true) (codes "nth") (whole 1 LAST_NTH) d (whole_in 1 LAST_NTH)) (λ nth some.
    always IsGood (needed (codes "code") two d) _ (λ code. nth_some nth some))
act_good at_gate.Silent d =
    goes (λ n. (nat_le 1 n && nat_le n LAST_NTH) ≡ true) IsGood (needed (codes "nth") (whole 1 LAST_NTH) d) _ (of_needed (λ n. (nat_le 1 n && nat_le n LAST_NTH) ≡ true) (codes "nth") (whole 1 LAST_NTH) d (whole_in 1 LAST_NTH)) (λ nth some. nth_some nth some)
act_good at_gate.Nack d =
    always IsGood (needed (codes "unit") four d) _ (λ unit.
    goes (λ n. (nat_le 1 n && nat_le n LAST_NTH) ≡ true) IsGood (needed (codes "nth") (whole 1 LAST_NTH) d) _ (of_needed (λ n. (nat_le 1 n && nat_le n LAST_NTH) ≡ true) (codes "nth") (whole 1 LAST_NTH) d (whole_in 1 LAST_NTH)) (λ nth some.
    always IsGood (needed (codes "code") two d) _ (λ code. nth_some nth some)))
act_good at_gate.Alive d =
    goes (λ n. (nat_le 0 n && nat_le n (LAST_TICK - 1)) ≡ true) IsGood (needed (codes "tick") (whole 0 (LAST_TICK - 1)) d) _ (of_needed (λ n. (nat_le 0 n && nat_le n (LAST_TICK - 1)) ≡ true) (codes "tick") (whole 0 (LAST_TICK - 1)) d (whole_in 0 (LAST_TICK - 1))) (λ tick low. tick_low tick low)

trouble_good : (d : Data) → IfOk (gate_trouble d) IsGood
trouble_good d = go (as_object d)
  where
    go : (ms : Option Members) → IfOk (if is_some ms then gate_trouble_members d else refused) IsGood
    go None = tt
    go (Some ms) = always IsGood (needed (codes "do") gate_deed d) _ (λ doing. of_object IsGood (is_gate_member doing) (gate_members doing) d (act_good doing d))

pub record AreGood (n : ℕ) (ts : List GatewayTrouble) : Type 0 where
  pub all : gates.all_troubles ts ≡ true
  pub count : length ts ≡ n

good_more : (ts : List GatewayTrouble) (t : GatewayTrouble) → gates.all_troubles ts ≡ true → IsGood t → gates.all_troubles (ts ++ t ∷ []) ≡ true
good_more [] t all good = and_from (gates.is_trouble t) true good refl
good_more (s ∷ ts) t all good =
    let parts = and_parts (gates.is_trouble s) (gates.all_troubles ts) all in
    and_from (gates.is_trouble s) (gates.all_troubles (ts ++ t ∷ [])) parts.0 (good_more ts t parts.1 good)

troubles_good : (n : ℕ) (before : List GatewayTrouble) (i : ℕ) (ds : Items) → AreGood n before → IfOk (entries_from gate_trouble before i ds) (AreGood (n + item_count ds))
troubles_good n before i no_items good = record { all = good.all; count = good.count ∙ omega arith }
troubles_good n before i (item d ds) good =
    goes IsGood (AreGood (n + suc (item_count ds))) (under (decimal i) (gate_trouble d)) (λ t. entries_from gate_trouble (before ++ t ∷ []) (i + 1) ds) (beneath IsGood (decimal i) (gate_trouble d) (trouble_good d)) (λ t is.
    let more : AreGood (n + 1) (before ++ t ∷ []) = record { all = good_more before t good.all is; count = length-append before (t ∷ []) ∙ ap (λ (k : ℕ). k + 1) good.count } in
    weaker (AreGood (n + 1 + item_count ds)) (AreGood (n + suc (item_count ds))) (entries_from gate_trouble (before ++ t ∷ []) (i + 1) ds)
    (λ ts a. record { all = a.all; count = a.count ∙ omega arith })
    (troubles_good (n + 1) (before ++ t ∷ []) (i + 1) ds more))

pub record AreFew (ts : List GatewayTrouble) : Type 0 where
  pub all : gates.all_troubles ts ≡ true
  pub few : length ts ≤ MOST_TROUBLES

few_good : (ds : Items) → IfOk (few_troubles ds) AreFew
few_good ds = go (nat_le (item_count ds) MOST_TROUBLES) refl
  where
    go : (b : Bool) → nat_le (item_count ds) MOST_TROUBLES ≡ b → IfOk (if b then entries_from gate_trouble [] 0 ds else refused) AreFew
    go false e = tt
    go true e = weaker (AreGood (0 + item_count ds)) AreFew (entries_from gate_trouble [] 0 ds)
        (λ ts a. let le : item_count ds ≤ 1000 = leb-true (item_count ds) 1000 e in record { all = a.all; few = omega (arith, a.count, le) })
        (troubles_good 0 [] 0 ds (record { all = refl; count = refl }))

gateway_in : (d : Data) → IfOk (gate_troubles d) AreFew
gateway_in d = go (as_array d)
  where
    go : (ds : Option Items) → IfOk (list_with few_troubles ds) AreFew
    go None = tt
    go (Some ds) = few_good ds

-- ------ the whole
vehicle_in : (d : Data) → IfOk (vehicle d) IsVehicleSpec
vehicle_in d = of_object IsVehicleSpec _ vehicle_members d
    (always IsVehicleSpec (needed (codes "entity") four d) _ (λ entity.
    goes (Each IsUnitSpec) IsVehicleSpec (needed (codes "units") units d) _ (of_needed (Each IsUnitSpec) (codes "units") units d units_in) (λ us are.
    goes AreFew IsVehicleSpec (chosen (codes "gateway") [] gate_troubles d) _ (of_chosen AreFew (codes "gateway") [] gate_troubles d (record { all = refl; few = omega arith }) gateway_in) (λ ts few.
    record { gateway = record { troubles = few.all; few = few.few }; units = are; addresses = refl }))))

few_in : (r : Reading VehicleSpec) → IfOk r IsVehicleSpec → IfOk (few_of r) IsVehicleSpec
few_in (Err e) is = tt
few_in (Ok v) is = go (is_few v)
  where
    go : (b : Bool) → IfOk (if b then Ok v else Err bench.TooMany) IsVehicleSpec
    go true = is
    go false = tt

pub read_is : (bytes : List ℕ) → IfOk (vehicle_of bytes) IsVehicleSpec
read_is bytes = go (value_in bytes)
  where
    go : (o : Option Data) → IfOk (vehicle_from o) IsVehicleSpec
    go None = tt
    go (Some d) = few_in (vehicle d) (vehicle_in d)
