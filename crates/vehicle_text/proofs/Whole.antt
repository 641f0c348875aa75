-- Units and vehicles are read as they are written.
use Rattle.std.proofs.Common.{◌≡◌, ℕ, suc, ◌+◌, ◌^◌, ◌<◌, ◌≤◌, Bool, true, false, List, [], ◌∷◌, ◌++◌, map, Option, Some, None, refl, sym, ◌∙◌, ap, arith, length, append_assoc, bytes_eq}
use Rattle.std.specs.Prelude.{nat_le, nat_lt, not, ◌-◌, ◌&&◌, ◌==◌, Ok, Err, codes, decimal, if◌then◌else◌, IsTrue}
use Rattle.std.proofs.lemmas.List.{append-nil}
use Rattle.std.proofs.lemmas.Bool.{and_from, and_parts, eqb-true, le-leb, leb-true, ltb-true}
use Rattle.std.proofs.lemmas.Slice.Eq.{bytes_eq-Decides}
use Rattle.serde_json.specs.Data.{Data}
use Rattle.serde_json.specs.View.{items_of}
use Rattle.flash_base.specs.ByteMaps.{has_each}
use Rattle.flash_base.specs.Lists.{Each}
use Rattle.flash_base.specs.declared.unit.KeyRule.{KeyRule}
use Rattle.flash_base.specs.declared.unit.KeyRule.TheVariants.{Free, Xor, Digest}
use Rattle.unit_model.specs.Regions.{filled}
use Rattle.unit_model.specs.RegionTests.{LIMIT}
use Rattle.unit_model.specs.Rules.{all_inside, all_ranges, is_kind, is_range, is_rule, last_in, transfer_in}
use Rattle.unit_model.specs.Running.{IsUnitSpec}
use Rattle.unit_model.specs.Troubles.{all_troubles, is_trouble}
use Rattle.unit_model.specs.declared.spec.PatchSpec.{PatchSpec}
use Rattle.unit_model.specs.declared.spec.RegionSpec.{RegionSpec}
use Rattle.unit_model.specs.declared.spec.TroubleSpec.{TroubleSpec}
use Rattle.unit_model.specs.declared.spec.UnitSpec.{UnitSpec}
use Rattle.unit_model.specs.declared.unit.Transfer.{Transfer}
use Rattle.gateway_sim.specs.Troubles as gates
use Rattle.gateway_sim.specs.Troubles.{MOST_TROUBLES}
use Rattle.gateway_sim.specs.declared.spec.GatewayTrouble.{GatewayTrouble}
use Rattle.vehicle_file.specs.Fields.{Reading, LAST_COUNT, any_bytes, bytes_to, chosen_of, end_place, entries_from, flag, four, hold_to, is_off, list_of, object_of, place, refused, two, under, whole}
use Rattle.vehicle_file.specs.Files.{few_of, is_vehicle_member, vehicle, vehicle_from, vehicle_members}
use Rattle.vehicle_file.specs.Keys.{key_rule}
use Rattle.vehicle_file.specs.Troubles.{gate_trouble, gate_troubles, item_count, trouble, troubles}
use Rattle.vehicle_file.specs.Units.{checked_range, has_address, idents, is_patch_member, is_range_member, is_transfer_member, is_unit_member, last_block, layout, lies_in, new_address, past, patch, patch_members, range_members, regions, rules_at, seed_given, session, size, some_length, state, transfer, transfer_members, unit, unit_members, units, units_from}
use Rattle.vehicle_file.specs.declared.fault.BenchFault.TheVariants as bench
use Rattle.vehicle_file.specs.declared.vehicle.VehicleSpec.{VehicleSpec}
use Rattle.vehicle_text.specs.Forms.{bytes_data, four_data, place_data, two_data, whole_data}
use Rattle.vehicle_text.specs.Keys.{key_data, key_given}
use Rattle.vehicle_text.specs.Objects.{Fields, object_in, or_else, unless}
use Rattle.vehicle_text.specs.Ranges.{FitsBytes, FitsGate, FitsKey, FitsPatch, FitsTransfer, FitsTrouble, FitsUnit, FitsVehicle}
use Rattle.vehicle_text.specs.Texts.{IsSaid, IsSaidUnit, lie_low, new_from, vehicle_data, vehicle_fields}
use Rattle.vehicle_text.specs.Troubles.{gate_data, trouble_data}
use Rattle.vehicle_text.specs.Units.{bytes_given, flag_given, idents_given, last_given, list_data, list_given, off_given, patch_data, patch_fields, range_data, range_fields, region_data, taken_given, transfer_fields, transfer_given, unit_data, unit_fields}
use Rattle.vehicle_text.proofs.Acts.{gate_is, key_is, trouble_is}
use Rattle.vehicle_text.proofs.Digits.{any_bytes_are, bytes_to_are, end_place_is, four_is, from_zero, place_is, two_is, whole_is}
use Rattle.vehicle_text.proofs.Finding.{bind, chosen_is, given_is, needed_is, normal_some, object_is, read_in}
use Rattle.vehicle_text.proofs.Sorted.{normal, normal_items}
use Rattle.vehicle_text.proofs.Idents.{given_idents}
use Rattle.vehicle_text.proofs.Rows.{given_list, list_is, regions_are, size_is}

-- ------ bytes and ranges
patch_is : (rs : List RegionSpec) (p : PatchSpec) → (nat_lt p.at LIMIT && nat_le (p.at + length p.bytes) LIMIT) ≡ true → has_each p.at (length p.bytes) (filled rs) ≡ true → FitsPatch p
    → patch rs (normal (patch_data p)) ≡ Ok p
patch_is rs p low inside fits =
    let fs : Fields = patch_fields p in
    let parts = and_parts (nat_lt p.at LIMIT) (nat_le (p.at + length p.bytes) LIMIT) low in
    bind (object_of is_patch_member patch_members (normal (patch_data p))) (λ q. hold_to (lies_in rs q.at (length q.bytes)) q) p _
    (object_is is_patch_member patch_members fs p refl
    (bind _ _ p.at _ (needed_is (codes "at") place fs (place_data p.at) p.at refl (place_is p.at (ltb-true p.at LIMIT parts.0)))
    (bind _ _ p.bytes _ (needed_is (codes "hex") any_bytes fs (bytes_data p.bytes) p.bytes refl (any_bytes_are p.bytes fits)) refl)))
    (ap (λ (b : Bool). hold_to b p) (and_from (nat_le (p.at + length p.bytes) LIMIT) (has_each p.at (length p.bytes) (filled rs)) parts.1 inside))

patches_are : (rs : List RegionSpec) (ps : List PatchSpec) → lie_low ps ≡ true → all_inside (filled rs) ps ≡ true → Each FitsPatch ps → Each (λ p. patch rs (normal (patch_data p)) ≡ Ok p) ps
patches_are rs [] low inside fits = tt
patches_are rs (p ∷ ps) low inside fits =
    let a = and_parts (nat_lt p.at LIMIT && nat_le (p.at + length p.bytes) LIMIT) (lie_low ps) low in
    let b = and_parts (has_each p.at (length p.bytes) (filled rs)) (all_inside (filled rs) ps) inside in
    (patch_is rs p a.0 b.0 fits.0, patches_are rs ps a.1 b.1 fits.1)

range_is : (r : ℕ × ℕ) → is_range r ≡ true → checked_range (normal (range_data r)) ≡ Ok r
range_is r range =
    let fs : Fields = range_fields r in
    let parts = and_parts (nat_le 1 r.1) (nat_le (r.0 + r.1) LIMIT) range in
    let some : 1 ≤ r.1 = leb-true 1 r.1 parts.0 in
    let low : r.0 + r.1 ≤ LIMIT = leb-true (r.0 + r.1) LIMIT parts.1 in
    bind (object_of is_range_member range_members (normal (range_data r))) (λ q. hold_to (nat_le (q.0 + q.1) LIMIT) q) r _
    (object_is is_range_member range_members fs r refl
    (bind _ _ r.0 _ (needed_is (codes "at") place fs (place_data r.0) r.0 refl (place_is r.0 (omega (arith, some, low))))
    (bind _ _ r.1 _ (needed_is (codes "size") size fs (whole_data r.1) r.1 refl (size_is r.1 parts.0 (omega (arith, low)))) refl)))
    (ap (λ (b : Bool). hold_to b r) parts.1)

ranges_are : (rs : List (ℕ × ℕ)) → all_ranges rs ≡ true → Each (λ r. checked_range (normal (range_data r)) ≡ Ok r) rs
ranges_are [] all = tt
ranges_are (r ∷ rs) all = let parts = and_parts (is_range r) (all_ranges rs) all in (range_is r parts.0, ranges_are rs parts.1)

troubles_are : (ts : List TroubleSpec) → all_troubles ts ≡ true → Each FitsTrouble ts → Each (λ t. trouble (normal (trouble_data t)) ≡ Ok t) ts
troubles_are [] all fits = tt
troubles_are (t ∷ ts) all fits = let parts = and_parts (is_trouble t) (all_troubles ts) all in (trouble_is t parts.0 fits.0, troubles_are ts parts.1 fits.1)

-- ------ members that may be left out
flag_is : (name : List ℕ) (b : Bool) → chosen_of name false flag (normal_some (flag_given b)) ≡ Ok b
flag_is name true = refl
flag_is name false = refl

off_is : (name : List ℕ) (b : Bool) → chosen_of name false is_off (normal_some (off_given b)) ≡ Ok b
off_is name true = refl
off_is name false = refl

given_key : (k : KeyRule) → is_rule k ≡ true → FitsKey k → chosen_of (codes "key") Free key_rule (normal_some (key_given k)) ≡ Ok k
given_key Free rule fits = refl
given_key (Xor l mask) rule fits = given_is (codes "key") Free key_rule (key_data (Xor l mask)) (Xor l mask) (key_is (Xor l mask) rule fits)
given_key (Digest l n secret) rule fits = given_is (codes "key") Free key_rule (key_data (Digest l n secret)) (Digest l n secret) (key_is (Digest l n secret) rule fits)

-- a value that is left out where a test says that it is the usual one
left_out : {A : Type 0} (name : List ℕ) (usual x : A) (b : Bool) (read : Data → Reading A) (d : Data) → (b ≡ true → usual ≡ x) → read (normal d) ≡ Ok x
    → chosen_of name usual read (normal_some (unless b d)) ≡ Ok x
left_out name usual x true read d same is = ap Ok (same refl)
left_out name usual x false read d same is = given_is name usual read d x is

some_seed : (o : Option (List ℕ)) → FitsBytes o → chosen_of (codes "last_seed") None seed_given (normal_some (bytes_given o)) ≡ Ok o
some_seed None fits = refl
some_seed (Some bs) fits =
    given_is (codes "last_seed") None seed_given (bytes_data bs) (Some bs) (bind (any_bytes (bytes_data bs)) (λ b. Ok (Some b)) bs _ (any_bytes_are bs fits) refl)

-- a member that stands once
either : (o : Option Data) → or_else o None ≡ o
either None = refl
either (Some d) = refl

-- ------ a transfer
lasts : (memory : List (ℕ × ℕ)) (at : ℕ) (o : Option ℕ) → last_in memory at o ≡ true → chosen_of (codes "last") None some_length (normal_some (last_given o)) ≡ Ok o
lasts memory at None in_it = refl
lasts memory at (Some n) in_it =
    let low = (and_parts (nat_le n 65533) (nat_le n at && has_each (at - n) n memory) in_it).0 in
    given_is (codes "last") None some_length (whole_data n) (Some n) (bind (whole 0 65533 (whole_data n)) (λ k. Ok (Some k)) n _ (whole_is 0 65533 n (from_zero n 65533 low)) refl)

abbrev was_taken : Option ℕ → Bool
was_taken None = false
was_taken (Some n) = true

takes : (o : Option ℕ) → chosen_of (codes "taken") false flag (normal_some (taken_given o)) ≡ Ok (was_taken o)
takes None = refl
takes (Some n) = refl

last_is : (o : Option ℕ) → last_block (was_taken o) o ≡ o
last_is None = refl
last_is (Some n) = refl

transfer_is : (rs : List RegionSpec) (t : Transfer) → transfer_in (filled rs) (Some t) ≡ true → t.counter < 256 → transfer rs (read_in (transfer_fields t)) ≡ Ok (Some t)
transfer_is rs t there counter =
    let fs : Fields = transfer_fields t in
    let first = and_parts (nat_le (t.at + t.rest) LIMIT) (has_each t.at t.rest (filled rs) && last_in (filled rs) t.at t.last) there in
    let last = (and_parts (has_each t.at t.rest (filled rs)) (last_in (filled rs) t.at t.last) first.1).1 in
    let low : t.at + t.rest ≤ LIMIT = leb-true (t.at + t.rest) LIMIT first.0 in
    bind (object_of is_transfer_member transfer_members (read_in fs)) (λ q. hold_to (transfer_in (filled rs) (Some q)) (Some q)) t _
    (object_is is_transfer_member transfer_members fs t refl
    (bind _ _ t.at _ (needed_is (codes "at") end_place fs (place_data t.at) t.at refl (end_place_is t.at (omega (arith, low))))
    (bind _ _ t.rest _ (needed_is (codes "rest") (whole 0 LAST_COUNT) fs (whole_data t.rest) t.rest refl (whole_is 0 LAST_COUNT t.rest (from_zero t.rest LAST_COUNT (le-leb t.rest LAST_COUNT (omega (arith, low))))))
    (bind _ _ t.counter _ (needed_is (codes "counter") two fs (two_data t.counter) t.counter refl (two_is t.counter counter))
    (bind _ _ (was_taken t.last) _ (chosen_is (codes "taken") false flag fs (taken_given t.last) (was_taken t.last) (either (taken_given t.last)) (takes t.last))
    (bind _ _ t.up _ (chosen_is (codes "up") false flag fs (flag_given t.up) t.up (either (flag_given t.up)) (flag_is (codes "up") t.up))
    (bind _ _ t.last _ (chosen_is (codes "last") None some_length fs (last_given t.last) t.last (either (last_given t.last)) (lasts (filled rs) t.at t.last last))
    (ap (λ (o : Option ℕ). Ok (record { up = t.up; at = t.at; rest = t.rest; counter = t.counter; last = o })) (last_is t.last)))))))))
    (ap (λ (b : Bool). hold_to b (Some t)) there)

given_transfer : (rs : List RegionSpec) (o : Option Transfer) → transfer_in (filled rs) o ≡ true → FitsTransfer o → chosen_of (codes "transfer") None (transfer rs) (normal_some (transfer_given o)) ≡ Ok o
given_transfer rs None there fits = refl
given_transfer rs (Some t) there fits = given_is (codes "transfer") None (transfer rs) (object_in (transfer_fields t)) (Some t) (transfer_is rs t there fits.counter)

-- ------ the parts of a unit
truth : (b : Bool) → IsTrue b → b ≡ true
truth b is = is

module _ (u : UnitSpec) (is : IsUnitSpec u) (said : IsSaidUnit u) (fits : FitsUnit u) where
  layout_is : (before : List UnitSpec) → has_address u.address before ≡ false → layout before (normal (unit_data u)) ≡ Ok (record { address = u.address; regions = u.regions; bytes = u.bytes; idents = u.idents })
  layout_is before new =
      bind _ _ u.address _ (needed_is (codes "address") (new_address before) (unit_fields u) (four_data u.address) u.address refl
      (bind (four (four_data u.address)) (λ a. hold_to (not (has_address a before)) a) u.address _ (four_is u.address fits.layout.address) (ap (λ (b : Bool). hold_to (not b) u.address) new)))
      (bind _ _ u.regions _ (needed_is (codes "regions") regions (unit_fields u) (list_data region_data u.regions) u.regions refl (regions_are u.regions (truth _ is.regions) fits.layout.regions))
      (bind _ _ u.bytes _ (chosen_is (codes "bytes") [] (list_of (patch u.regions)) (unit_fields u) (list_given patch_data u.bytes) u.bytes (either _)
      (given_list (codes "bytes") (patch u.regions) patch_data u.bytes (patches_are u.regions u.bytes (truth _ said.bytes) (truth _ is.bytes) fits.layout.bytes)))
      (bind _ _ u.idents _ (chosen_is (codes "idents") [] idents (unit_fields u) (idents_given u.idents) u.idents (either _) (given_idents u.idents (truth _ said.idents) (truth _ is.idents) fits.layout.idents)) refl)))

  usual_seed : bytes_eq u.seed (1 ∷ []) ≡ true → (1 ∷ []) ≡ u.seed
  usual_seed e = sym ((bytes_eq-Decides u.seed (1 ∷ [])).0 e)

  rules_are : rules_at (normal (unit_data u)) ≡ Ok (record { key = u.key; seed = u.seed; block = u.block; check = u.check })
  rules_are =
      bind _ _ u.key _ (chosen_is (codes "key") Free key_rule (unit_fields u) (key_given u.key) u.key (either _) (given_key u.key (truth _ is.key) fits.rules.key))
      (bind _ _ u.seed _ (chosen_is (codes "seed") (1 ∷ []) (bytes_to 64) (unit_fields u) (unless (bytes_eq u.seed (1 ∷ [])) (bytes_data u.seed)) u.seed (either _)
      (left_out (codes "seed") (1 ∷ []) u.seed (bytes_eq u.seed (1 ∷ [])) (bytes_to 64) (bytes_data u.seed) usual_seed (bytes_to_are 64 u.seed fits.rules.seed (truth _ is.seed))))
      (bind _ _ u.block _ (chosen_is (codes "block") 4095 (whole 0 (2 ^ 32 - 1)) (unit_fields u) (unless (u.block == 4095) (whole_data u.block)) u.block (either _)
      (left_out (codes "block") 4095 u.block (u.block == 4095) (whole 0 (2 ^ 32 - 1)) (whole_data u.block) (λ e. sym (eqb-true u.block 4095 e)) (whole_is 0 (2 ^ 32 - 1) u.block (low u.block fits.rules.block))))
      (bind _ _ u.check _ (needed_is (codes "check") four (unit_fields u) (four_data u.check) u.check refl (four_is u.check fits.rules.check)) refl)))
    where
      low : (n : ℕ) → n < 2 ^ 32 → (nat_le 0 n && nat_le n (2 ^ 32 - 1)) ≡ true
      low n lt = from_zero n (2 ^ 32 - 1) (le-leb n (2 ^ 32 - 1) (omega (arith, lt)))

  past_is : past (normal (unit_data u)) ≡ Ok (record { checked = u.checked; passed = u.passed; heard = u.heard; troubles = u.troubles })
  past_is =
      bind _ _ u.checked _ (chosen_is (codes "checked") [] (list_of checked_range) (unit_fields u) (list_given range_data u.checked) u.checked (either _)
      (given_list (codes "checked") checked_range range_data u.checked (ranges_are u.checked (truth _ is.checked))))
      (bind _ _ u.passed _ (chosen_is (codes "passed") false flag (unit_fields u) (flag_given u.passed) u.passed (either _) (flag_is (codes "passed") u.passed))
      (bind _ _ u.heard _ (chosen_is (codes "heard") 0 (whole 0 LAST_COUNT) (unit_fields u) (unless (u.heard == 0) (whole_data u.heard)) u.heard (either _)
      (left_out (codes "heard") 0 u.heard (u.heard == 0) (whole 0 LAST_COUNT) (whole_data u.heard) (λ e. sym (eqb-true u.heard 0 e)) (whole_is 0 LAST_COUNT u.heard (low u.heard fits.past.heard))))
      (bind _ _ u.troubles _ (chosen_is (codes "troubles") [] troubles (unit_fields u) (list_given trouble_data u.troubles) u.troubles (either _)
      (given_list (codes "troubles") trouble trouble_data u.troubles (troubles_are u.troubles (truth _ is.troubles) fits.past.troubles))) refl)))
    where
      low : (n : ℕ) → n < 2 ^ 64 → (nat_le 0 n && nat_le n LAST_COUNT) ≡ true
      low n lt = from_zero n LAST_COUNT (le-leb n LAST_COUNT (omega (arith, lt)))

  session_is : session (two_data u.kind) ≡ Ok u.kind
  session_is =
      let kind : is_kind u.kind ≡ true = truth _ is.kind in
      let top : u.kind ≤ 3 = leb-true u.kind 3 (and_parts (nat_le 1 u.kind) (nat_le u.kind 3) kind).1 in
      bind (two (two_data u.kind)) (λ k. hold_to (nat_le 1 k && nat_le k 3) k) u.kind _ (two_is u.kind (omega (arith, top))) (ap (λ (b : Bool). hold_to b u.kind) kind)

  state_is : state u.regions (normal (unit_data u)) ≡ Ok (record { kind = u.kind; unlocked = u.unlocked; last_seed = u.last_seed; transfer = u.transfer; dtc_off = u.dtc_off; messages_off = u.messages_off })
  state_is =
      bind _ _ u.kind _ (chosen_is (codes "kind") 1 session (unit_fields u) (unless (u.kind == 1) (two_data u.kind)) u.kind (either _)
      (left_out (codes "kind") 1 u.kind (u.kind == 1) session (two_data u.kind) (λ e. sym (eqb-true u.kind 1 e)) session_is))
      (bind _ _ u.unlocked _ (chosen_is (codes "unlocked") false flag (unit_fields u) (flag_given u.unlocked) u.unlocked (either _) (flag_is (codes "unlocked") u.unlocked))
      (bind _ _ u.last_seed _ (chosen_is (codes "last_seed") None seed_given (unit_fields u) (bytes_given u.last_seed) u.last_seed (either _) (some_seed u.last_seed fits.state.last_seed))
      (bind _ _ u.transfer _ (chosen_is (codes "transfer") None (transfer u.regions) (unit_fields u) (transfer_given u.transfer) u.transfer (either _) (given_transfer u.regions u.transfer (truth _ is.transfer) fits.state.transfer))
      (bind _ _ u.dtc_off _ (chosen_is (codes "dtc") false is_off (unit_fields u) (off_given u.dtc_off) u.dtc_off (either _) (off_is (codes "dtc") u.dtc_off))
      (bind _ _ u.messages_off _ (chosen_is (codes "messages") false is_off (unit_fields u) (off_given u.messages_off) u.messages_off (either _) (off_is (codes "messages") u.messages_off)) refl)))))

  pub unit_is : (before : List UnitSpec) → has_address u.address before ≡ false → unit before (normal (unit_data u)) ≡ Ok u
  unit_is before new =
      object_is is_unit_member (unit_members before) (unit_fields u) u refl
      (bind _ _ _ _ (layout_is before new) (bind _ _ _ _ rules_are (bind _ _ _ _ past_is (bind _ _ _ _ state_is refl))))

-- ------ a vehicle
not_false : (b : Bool) → not b ≡ true → b ≡ false
not_false true e = sym e
not_false false e = refl

units_are : (before us : List UnitSpec) (i : ℕ) → Each IsUnitSpec us → Each IsSaidUnit us → Each FitsUnit us → new_from before us ≡ true
    → units_from before i (normal_items (items_of (map unit_data us))) ≡ Ok (before ++ us)
units_are before [] i is said fits new = ap Ok (sym (append-nil before))
units_are before (u ∷ us) i is said fits new =
    let parts = and_parts (not (has_address u.address before)) (new_from (before ++ u ∷ []) us) new in
    bind (under (decimal i) (unit before (normal (unit_data u)))) (λ v. units_from (before ++ v ∷ []) (i + 1) (normal_items (items_of (map unit_data us)))) u _
    (ap (under (decimal i)) (unit_is u is.0 said.0 fits.0 before (not_false (has_address u.address before) parts.0)))
    (units_are (before ++ u ∷ []) us (i + 1) is.1 said.1 fits.1 parts.1 ∙ ap Ok (append_assoc before (u ∷ []) us))

gates_are : (ts : List GatewayTrouble) → gates.all_troubles ts ≡ true → Each FitsGate ts → Each (λ t. gate_trouble (normal (gate_data t)) ≡ Ok t) ts
gates_are [] all fits = tt
gates_are (t ∷ ts) all fits = let parts = and_parts (gates.is_trouble t) (gates.all_troubles ts) all in (gate_is t parts.0 fits.0, gates_are ts parts.1 fits.1)

counted : (ts : List GatewayTrouble) → item_count (normal_items (items_of (map gate_data ts))) ≡ length ts
counted [] = refl
counted (t ∷ ts) = ap suc (counted ts)

given_gates : (ts : List GatewayTrouble) → gates.all_troubles ts ≡ true → length ts ≤ MOST_TROUBLES → Each FitsGate ts → chosen_of (codes "gateway") [] gate_troubles (normal_some (list_given gate_data ts)) ≡ Ok ts
given_gates [] all few fits = refl
given_gates (t ∷ ts) all few fits =
    let small : nat_le (item_count (normal_items (items_of (map gate_data (t ∷ ts))))) MOST_TROUBLES ≡ true = ap (λ n. nat_le n MOST_TROUBLES) (counted (t ∷ ts)) ∙ le-leb (length (t ∷ ts)) MOST_TROUBLES few in
    given_is (codes "gateway") [] gate_troubles (list_data gate_data (t ∷ ts)) (t ∷ ts)
    (ap (λ (b : Bool). if b then entries_from gate_trouble [] 0 (normal_items (items_of (map gate_data (t ∷ ts)))) else refused) small ∙ list_is gate_trouble gate_data (t ∷ ts) (gates_are (t ∷ ts) all fits))

vehicle_is : (v : VehicleSpec) → IsSaid v → FitsVehicle v → vehicle (normal (vehicle_data v)) ≡ Ok v
vehicle_is v said fits =
    object_is is_vehicle_member vehicle_members (vehicle_fields v) v refl
    (bind _ _ v.gateway.entity _ (needed_is (codes "entity") four (vehicle_fields v) (four_data v.gateway.entity) v.gateway.entity refl (four_is v.gateway.entity fits.entity))
    (bind _ _ v.units _ (needed_is (codes "units") units (vehicle_fields v) (list_data unit_data v.units) v.units refl (units_are [] v.units 0 said.is.units said.units fits.units (truth _ said.addresses)))
    (bind _ _ v.gateway.gateway _ (chosen_is (codes "gateway") [] gate_troubles (vehicle_fields v) (list_given gate_data v.gateway.gateway) v.gateway.gateway (either _)
    (given_gates v.gateway.gateway (truth _ said.is.gateway.troubles) said.is.gateway.few fits.gateway))
    (ap (λ (all : List ℕ). Ok (record { gateway = record { entity = v.gateway.entity; gateway = v.gateway.gateway; units = all }; units = v.units })) (sym said.is.addresses)))))

-- what was written is read as it was
pub back : (v : VehicleSpec) → IsSaid v → FitsVehicle v → vehicle_from (Some (normal (vehicle_data v))) ≡ Ok v
back v said fits = ap few_of (vehicle_is v said fits) ∙ ap (λ (b : Bool). if b then Ok v else Err bench.TooMany) (truth _ said.few)
