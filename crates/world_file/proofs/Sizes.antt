-- A vehicle as a spec has the shapes that it has.
use Rattle.std.proofs.Common.{◌≡◌, ◌⊎◌, inl, inr, ℕ, zero, suc, ◌+◌, ◌<◌, ◌≤◌, Bool, true, false, List, [], ◌∷◌, ◌++◌, map, length, replicate, refl, sym, ◌∙◌, ap, subst, arith}
use Rattle.std.specs.Prelude.{◌&&◌, ◌||◌, ◌==◌, filter, is_some, not, nat_le, nat_lt, Option, IsTrue}
use Rattle.std.proofs.lemmas.Bool.{and_from, and_parts, cases_Bool, cases_lt, le-leb, leb-true, lt-ltb, ltb-true}
use Rattle.std.proofs.lemmas.List.{length-append, length-replicate, map-append}
use Rattle.flash_base.specs.ByteMaps.{MemoryMap, byte_at, has_each, put}
use Rattle.flash_base.specs.Lists.{Each}
use Rattle.unit_model.proofs.Parts.{laid_out}
use Rattle.unit_model.specs.RegionTests.{LIMIT, all_apart, apart_from, spec_extents}
use Rattle.unit_model.specs.Regions.{filled, laid, patched}
use Rattle.unit_model.specs.Rules.{all_inside}
use Rattle.unit_model.specs.Running.{IsUnitSpec, memory_in, unit_of}
use Rattle.unit_model.specs.declared.spec.PatchSpec.{PatchSpec}
use Rattle.unit_model.specs.declared.spec.RegionSpec.{RegionSpec}
use Rattle.unit_model.specs.declared.spec.UnitSpec.{UnitSpec}
use Rattle.unit_sim.specs.Sims.{Sim}
use Rattle.vehicle_file.specs.Files as file
use Rattle.vehicle_file.specs.Units.{has_address}
use Rattle.vehicle_text.specs.Texts.{IsSaid, IsSaidUnit, ascend, lie_low, new_from}
use Rattle.vehicle_world.specs.Saving.{IsVehicleSpec, SaveUnits, address_in}
use Rattle.vehicle_world.specs.Shapes.{Shape, shape}
use Rattle.vehicle_world.specs.States.{unit_in}
use Rattle.vehicle_world.specs.declared.spec.VehicleSpec.{VehicleSpec}
use Rattle.world_file.specs.Said.{CanBeSaid, all_new, all_settled, has_some, is_taken, settled, sizes}
use Rattle.world_file.specs.Saves.{said_by}

truth : (b : Bool) → IsTrue b → b ≡ true
truth b t = t

pub true_is : (b : Bool) → b ≡ true → IsTrue b
true_is b e = e

-- ------ shapes of specs
abbrev pub shape_in : UnitSpec → Shape
shape_in u = shape (unit_of u)

abbrev pub shapes_in : List UnitSpec → List Shape
shapes_in us = map shape_in us

pub saved_shapes : (all sims : List Sim) (us : List UnitSpec) → SaveUnits all sims us → shapes_in us ≡ map shape (map unit_in sims)
saved_shapes all [] [] save = refl
saved_shapes all [] (u ∷ us) save = absurd save
saved_shapes all (s ∷ ss) [] save = absurd save
saved_shapes all (s ∷ ss) (u ∷ us) save = λ i. shape (save.0.unit i) ∷ saved_shapes all ss us save.1 i

-- ------ sizes
laid_length : (at : ℕ) (xs : List ℕ) → length (laid at xs) ≡ length xs
laid_length at [] = refl
laid_length at (x ∷ xs) = ap suc (laid_length (at + 1) xs)

filled_length : (rs : List RegionSpec) → length (filled rs) ≡ file.region_sizes rs
filled_length [] = refl
filled_length (r ∷ rs) =
    length-append (laid r.at (replicate r.size r.fill)) (filled rs)
    ∙ (λ i. (laid_length r.at (replicate r.size r.fill) ∙ length-replicate r.size r.fill) i + filled_length rs i)

put_length : (at : ℕ) (xs : List ℕ) (m : MemoryMap) → length (put at xs m) ≡ length m
put_length at xs [] = refl
put_length at xs (p ∷ ps) = ap suc (put_length at xs ps)

patched_length : (ps : List PatchSpec) (m : MemoryMap) → length (patched ps m) ≡ length m
patched_length [] m = refl
patched_length (p ∷ ps) m = patched_length ps (put p.at p.bytes m) ∙ put_length p.at p.bytes m

size_is : (u : UnitSpec) → length (memory_in u) ≡ file.region_sizes u.regions
size_is u = patched_length u.bytes (filled u.regions) ∙ filled_length u.regions

pub sizes_are : (us : List UnitSpec) → sizes (shapes_in us) ≡ file.memory_sizes us
sizes_are [] = refl
sizes_are (u ∷ us) = λ i. size_is u i + sizes_are us i

-- ------ addresses
taken_is : (a : ℕ) (us : List UnitSpec) → has_address a us ≡ is_taken a (shapes_in us)
taken_is a [] = refl
taken_is a (u ∷ us) = ap (λ (b : Bool). u.address == a || b) (taken_is a us)

pub new_is : (before us : List UnitSpec) → new_from before us ≡ all_new (shapes_in before) (shapes_in us)
new_is before [] = refl
new_is before (u ∷ us) =
    (λ i. not (taken_is u.address before i) && new_is (before ++ u ∷ []) us i)
    ∙ ap (λ (ss : List Shape). not (is_taken u.address (shapes_in before)) && all_new ss (shapes_in us)) (map-append shape_in before (u ∷ []))

-- ------ an entry of no bytes
put_none : (at : ℕ) (m : MemoryMap) → put at [] m ≡ m
put_none at [] = refl
put_none at (p ∷ ps) = elim (cases_Bool (nat_le at p.0 && nat_lt p.0 (at + 0))) [
  | inl e ↦
      let parts = and_parts (nat_le at p.0) (nat_lt p.0 (at + 0)) e in
      let low : at ≤ p.0 = leb-true at p.0 parts.0 in
      let high : p.0 < at + 0 = ltb-true p.0 (at + 0) parts.1 in
      absurd (omega (arith, low, high))
  | inr e ↦ rw e (ap (λ (m : MemoryMap). (p.0, p.1) ∷ m) (put_none at ps))
]

no_bytes : (xs : List ℕ) → nat_lt 0 (length xs) ≡ false → xs ≡ []
no_bytes [] e = refl
no_bytes (x ∷ xs) e = absurd (true_false (sym (lt-ltb 0 (length (x ∷ xs)) (omega arith)) ∙ e))
  where
    true_false : true ≡ false → ⊥
    true_false e = cc

same_memory : (ps : List PatchSpec) (m : MemoryMap) → patched (filter has_some ps) m ≡ patched ps m
same_memory [] m = refl
same_memory (p ∷ ps) m = elim (cases_Bool (has_some p)) [
  | inl e ↦ rw e (same_memory ps (put p.at p.bytes m))
  | inr e ↦
      let none : put p.at p.bytes m ≡ m = ap (λ (xs : List ℕ). put p.at xs m) (no_bytes p.bytes e) ∙ put_none p.at m in
      rw e (same_memory ps m ∙ ap (patched ps) (sym none))
]

pub settled_unit : (u : UnitSpec) → unit_of (settled u) ≡ unit_of u
settled_unit u = λ i. record (unit_of u) { memory = same_memory u.bytes (filled u.regions) i }

still_inside : (m : MemoryMap) (ps : List PatchSpec) → all_inside m ps ≡ true → all_inside m (filter has_some ps) ≡ true
still_inside m [] all = refl
still_inside m (p ∷ ps) all =
    let parts = and_parts (has_each p.at (length p.bytes) m) (all_inside m ps) all in
    elim (cases_Bool (has_some p)) [
      | inl e ↦ rw e (and_from (has_each p.at (length p.bytes) m) (all_inside m (filter has_some ps)) parts.0 (still_inside m ps parts.1))
      | inr e ↦ rw e (still_inside m ps parts.1)
    ]

-- ------ what lies in regions lies below the limit
there_low : (rs : List RegionSpec) (a : ℕ) → all_apart (spec_extents rs) ≡ true → is_some (byte_at (filled rs) a) ≡ true → a < LIMIT
there_low [] a apart there = absurd (true_false (sym there))
  where
    true_false : true ≡ false → ⊥
    true_false e = cc
there_low (r ∷ rs) a apart there =
    let first = and_parts (nat_le 1 r.size && nat_le (r.at + r.size) LIMIT) (apart_from (r.at, r.size) (spec_extents rs) && all_apart (spec_extents rs)) apart in
    let end : r.at + r.size ≤ LIMIT = leb-true (r.at + r.size) LIMIT (and_parts (nat_le 1 r.size) (nat_le (r.at + r.size) LIMIT) first.0).1 in
    let rest = (and_parts (apart_from (r.at, r.size) (spec_extents rs)) (all_apart (spec_extents rs)) first.1).1 in
    let size : length (replicate r.size r.fill) ≡ r.size = length-replicate r.size r.fill in
    let later : (a < r.at) ⊎ (r.at + length (replicate r.size r.fill) ≤ a) → a < LIMIT =
    λ out. there_low rs a rest (ap (λ (o : Option ℕ). is_some o) (sym (laid_out r.at (replicate r.size r.fill) (filled rs) a out)) ∙ there) in
    elim (cases_lt a r.at) [
      | inl below ↦ later (inl below)
      | inr from ↦ elim (cases_lt a (r.at + r.size)) [
        | inl in_it ↦ omega (arith, in_it, end)
        | inr past ↦ later (inr (omega (arith, size, past)))
      ]
    ]

last_there : (n at : ℕ) (m : MemoryMap) → has_each at (suc n) m ≡ true → is_some (byte_at m (at + n)) ≡ true
last_there zero at m all =
    let e : at ≡ at + 0 = omega arith in
    ap (λ (k : ℕ). is_some (byte_at m k)) (sym e) ∙ (and_parts (is_some (byte_at m at)) (has_each (at + 1) zero m) all).0
last_there (suc n) at m all =
    let e : at + 1 + n ≡ at + suc n = omega arith in
    ap (λ (k : ℕ). is_some (byte_at m k)) (sym e) ∙ last_there n (at + 1) m (and_parts (is_some (byte_at m at)) (has_each (at + 1) (suc n) m) all).1

ends_low : (rs : List RegionSpec) (at n : ℕ) → all_apart (spec_extents rs) ≡ true → 1 ≤ n → has_each at n (filled rs) ≡ true → at + n ≤ LIMIT
ends_low rs at zero apart some all = absurd (omega (arith, some))
ends_low rs at (suc n) apart some all = let lt : at + n < LIMIT = there_low rs (at + n) apart (last_there n at (filled rs) all) in omega (arith, lt)

lies_low : (rs : List RegionSpec) (ps : List PatchSpec) → all_apart (spec_extents rs) ≡ true → all_inside (filled rs) ps ≡ true → lie_low (filter has_some ps) ≡ true
lies_low rs [] apart all = refl
lies_low rs (p ∷ ps) apart all =
    let parts = and_parts (has_each p.at (length p.bytes) (filled rs)) (all_inside (filled rs) ps) all in
    elim (cases_Bool (has_some p)) [
      | inl e ↦
          let some : 0 < length p.bytes = ltb-true 0 (length p.bytes) e in
          let low : p.at + length p.bytes ≤ LIMIT = ends_low rs p.at (length p.bytes) apart (omega (arith, some)) parts.0 in
          rw e (and_from (nat_lt p.at LIMIT && nat_le (p.at + length p.bytes) LIMIT) (lie_low (filter has_some ps))
          (and_from (nat_lt p.at LIMIT) (nat_le (p.at + length p.bytes) LIMIT) (lt-ltb p.at LIMIT (omega (arith, some, low))) (le-leb (p.at + length p.bytes) LIMIT low))
          (lies_low rs ps apart parts.1))
      | inr e ↦ rw e (lies_low rs ps apart parts.1)
    ]

-- ------ the whole
settled_is : (u : UnitSpec) → IsUnitSpec u → IsUnitSpec (settled u)
settled_is u is = record {
  regions = is.regions;
  bytes = true_is _ (still_inside (filled u.regions) u.bytes (truth _ is.bytes));
  idents = is.idents;
  seed = is.seed;
  key = is.key;
  checked = is.checked;
  kind = is.kind;
  transfer = is.transfer;
  troubles = is.troubles;
}

units_are : (us : List UnitSpec) → Each IsUnitSpec us → Each IsUnitSpec (all_settled us)
units_are [] is = tt
units_are (u ∷ us) is = (settled_is u is.0, units_are us is.1)

units_said : (us : List UnitSpec) → Each IsUnitSpec us → Each (λ (s : Shape). IsTrue (ascend s.idents)) (shapes_in us) → Each IsSaidUnit (all_settled us)
units_said [] is ups = tt
units_said (u ∷ us) is ups = (
  record { idents = ups.0; bytes = true_is _ (lies_low u.regions u.bytes (truth _ is.0.regions) (truth _ is.0.bytes)) },
  units_said us is.1 ups.1,
)

addresses_stay : (us : List UnitSpec) → map address_in us ≡ map file.address_in (all_settled us)
addresses_stay [] = refl
addresses_stay (u ∷ us) = ap (λ (rest : List ℕ). u.address ∷ rest) (addresses_stay us)

pub shapes_stay : (us : List UnitSpec) → shapes_in (all_settled us) ≡ shapes_in us
shapes_stay [] = refl
shapes_stay (u ∷ us) = λ i. shape (settled_unit u i) ∷ shapes_stay us i

pub length_shapes : (us : List UnitSpec) → length (shapes_in us) ≡ length us
length_shapes [] = refl
length_shapes (u ∷ us) = ap suc (length_shapes us)

pub is_said : (spec : VehicleSpec) (ss : List Shape) → IsVehicleSpec spec → shapes_in spec.units ≡ ss → CanBeSaid ss → IsSaid (said_by spec)
is_said spec ss is same can =
    let us : List UnitSpec = all_settled spec.units in
    let same_now : shapes_in us ≡ ss = shapes_stay spec.units ∙ same in
    let can_now : CanBeSaid (shapes_in us) = subst CanBeSaid (sym same_now) can in
    let count : length us ≤ file.MOST_UNITS = let e : length (shapes_in us) ≡ length us = length_shapes us in omega (arith, e, can_now.units) in
    let bytes : file.memory_sizes us ≤ file.MOST_MEMORY = let e : sizes (shapes_in us) ≡ file.memory_sizes us = sizes_are us in omega (arith, e, can_now.memory) in
    record {
      is = record { gateway = is.gateway; units = units_are spec.units is.units; addresses = is.addresses ∙ addresses_stay spec.units };
      units = units_said spec.units is.units (subst (λ (xs : List Shape). Each (λ (s : Shape). IsTrue (ascend s.idents)) xs) (sym same) can.idents);
      addresses = true_is _ (new_is [] us ∙ truth _ can_now.addresses);
      few = true_is _ (and_from (nat_le (length us) file.MOST_UNITS) (nat_le (file.memory_sizes us) file.MOST_MEMORY) (le-leb (length us) file.MOST_UNITS count) (le-leb (file.memory_sizes us) file.MOST_MEMORY bytes));
    }
