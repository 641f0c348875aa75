-- The text of a drill's vehicle is read as its vehicle.
use Rattle.std.proofs.Common.{◌≡◌, ◌∙◌, ℕ, zero, suc, ◌+◌, ◌*◌, ◌<◌, ◌≤◌, List, [], ◌∷◌, ◌++◌, codes, decimal, length, map, true, false, nat_le, Some, None, Ok, refl, sym, ap, arith}
use Rattle.std.specs.List.{range_with_len}
use Rattle.std.specs.Str.{is_utf8}
use Rattle.std.proofs.lemmas.Bool.Decides.{nat_tests}
use Rattle.std.proofs.lemmas.List.FromFn.{length-map-range_with_len, map-range_with_len_more}
use Rattle.hex.specs.Hex.{encode_with, decode_pairs}
use Rattle.serde_json.specs.Data.{Data, Items, Members, object, array, string, member, no_members}
use Rattle.serde_json.specs.Read.{read}
use Rattle.serde_json.specs.View.{items_of}
use Rattle.bench_gen.specs.Files.{IsTextOf}
use Rattle.bench_gen.specs.Sizes.{bytes_of, units_of}
use Rattle.bench_gen.specs.Vehicle as file
use Rattle.unit_model.specs.RegionTests.{LIMIT}
use Rattle.unit_model.specs.declared.spec.RegionSpec.{RegionSpec}
use Rattle.unit_model.specs.declared.spec.UnitSpec.{UnitSpec}
use Rattle.vehicle_file.specs.Fields.{Reading, ◌>>=◌, LAST_COUNT, chosen, hold_to, list_of, needed, stranger, under, unless_strange}
use Rattle.vehicle_file.specs.Files.{address_in, few_of, is_few, memory_sizes, value_in, vehicle, vehicle_from, vehicle_of}
use Rattle.vehicle_file.specs.Units as said
use Rattle.vehicle_file.specs.declared.vehicle.VehicleSpec.{VehicleSpec}
use Rattle.drill_law.specs.Vehicles.{unit_spec, unit_specs, vehicle_of_drill}
use Rattle.drill_law.proofs.Tables.{First, Rows, row_of}

abbrev region_for : ℕ → RegionSpec
region_for size = record { at = 65536; size = size; fill = 255 }

-- the first units, with so many bytes each
abbrev spec_for : ℕ → ℕ → UnitSpec
spec_for size k = record {
  address = 4096 + k;
  regions = region_for size ∷ [];
  bytes = [];
  idents = (61845, codes "OLD") ∷ [];
  key = Rattle.drill_law.specs.Plans.key_rule;
  seed = 18 ∷ 52 ∷ [];
  block = 4095;
  check = 514;
  checked = [];
  passed = false;
  heard = 0;
  troubles = [];
  kind = 1;
  unlocked = false;
  last_seed = None;
  transfer = None;
  dtc_off = false;
  messages_off = false;
}

abbrev specs_for : ℕ → ℕ → List UnitSpec
specs_for size k = map (spec_for size) (range_with_len 0 k)

-- ------ the regions of a unit
size_read : (size : ℕ) → 1 ≤ size → size ≤ 1048576 → needed (codes "size") said.size (file.region size) ≡ Ok size
size_read size some few =
    let a : nat_le 1 size ≡ true = grind (arith, nat_tests, some) in
    let b : nat_le size LAST_COUNT ≡ true = grind (arith, nat_tests, few) in
    rw (a, b) refl

-- a region by its size
abbrev region_by : Reading ℕ → Reading RegionSpec
region_by s = ((s >>= λ n. Ok (region_for n)) >>= unless_strange None) >>= λ r. hold_to (said.lies_well [] r) r

region_parts : (size : ℕ) → said.region [] (file.region size) ≡ region_by (needed (codes "size") said.size (file.region size))
region_parts size = refl

region_low : (size : ℕ) → size ≤ 1048576 → region_by (Ok size) ≡ Ok (region_for size)
region_low size few =
    let a : nat_le (65536 + size) LIMIT ≡ true = grind (arith, nat_tests, few) in
    rw a refl

region_read : (size : ℕ) → 1 ≤ size → size ≤ 1048576 → said.region [] (file.region size) ≡ Ok (region_for size)
region_read size some few = region_parts size ∙ ap region_by (size_read size some few) ∙ region_low size few

abbrev regions_by : Reading RegionSpec → Reading (List RegionSpec)
regions_by r = under (codes "regions") (under (decimal 0) r >>= λ r. Ok (r ∷ []))

regions_parts : (size k : ℕ) → needed (codes "regions") said.regions (file.unit size k) ≡ regions_by (said.region [] (file.region size))
regions_parts size k = refl

regions_read : (size k : ℕ) → 1 ≤ size → size ≤ 1048576 → needed (codes "regions") said.regions (file.unit size k) ≡ Ok (region_for size ∷ [])
regions_read size k some few = regions_parts size k ∙ ap regions_by (region_read size some few)

-- ------ a unit, by what its regions are read as
abbrev members_of : ℕ → ℕ → Members
members_of size k =
    member (codes "address") (string (Rattle.bench_gen.specs.Order.address_text k))
    (member (codes "block") (Rattle.serde_json.specs.Data.number (Rattle.serde_json.specs.Data.unsigned 4095))
    (member (codes "check") (string (codes "0202"))
    (member (codes "idents") file.idents
    (member (codes "key") Rattle.bench_gen.specs.Order.key
    (member (codes "regions") (array (items_of (file.region size ∷ [])))
    (member (codes "seed") (string (codes "1234")) no_members))))))

abbrev Layout : Type 0
Layout = First said.unit_of

abbrev layout_with : ℕ → List RegionSpec → List Rattle.unit_model.specs.declared.spec.PatchSpec.PatchSpec → List (ℕ × List ℕ) → Layout
layout_with address rs bytes is = record { address = address; regions = rs; bytes = bytes; idents = is }

abbrev unit_with : List UnitSpec → Data → Members → Reading (List RegionSpec) → Reading UnitSpec
unit_with before o ms r =
    ((needed (codes "address") (said.new_address before) o >>= λ address.
    r >>= λ rs.
    chosen (codes "bytes") [] (list_of (said.patch rs)) o >>= λ bytes.
    chosen (codes "idents") [] said.idents o >>= λ is.
    Ok (layout_with address rs bytes is))
    >>= λ l. said.rules_at o >>= λ a. said.past o >>= λ p. said.state l.regions o >>= λ s. Ok (said.unit_of l a p s))
    >>= unless_strange (stranger said.is_unit_member ms)

unit_parts : (before : List UnitSpec) (size k : ℕ) → said.unit before (file.unit size k) ≡ unit_with before (file.unit size k) (members_of size k) (needed (codes "regions") said.regions (file.unit size k))
unit_parts before size k = refl

abbrev UnitRow : ℕ → Type 0
UnitRow k = (size : ℕ) → unit_with (specs_for size k) (file.unit size k) (members_of size k) (Ok (region_for size ∷ [])) ≡ Ok (spec_for size k)

unit_rows : Rows UnitRow 0 12
unfolding encode_with decode_pairs
unit_rows = (
  λ s. refl,
  (
    λ s. refl,
    (
      λ s. refl,
      (
        λ s. refl,
        (
          λ s. refl,
          (
            λ s. refl,
            (λ s. refl, (λ s. refl, (λ s. refl, (λ s. refl, (λ s. refl, (λ s. refl, tt)))))),
          ),
        ),
      ),
    ),
  ),
)

unit_read : (size k : ℕ) → k < 12 → 1 ≤ size → size ≤ 1048576 → said.unit (specs_for size k) (file.unit size k) ≡ Ok (spec_for size k)
unit_read size k low some few =
    unit_parts (specs_for size k) size k
    ∙ ap (unit_with (specs_for size k) (file.unit size k) (members_of size k)) (regions_read size k some few)
    ∙ row_of UnitRow 12 unit_rows k low size

-- ------ all units
one_more : (size k : ℕ) → specs_for size k ++ spec_for size k ∷ [] ≡ specs_for size (k + 1)
one_more size k = sym (map-range_with_len_more (spec_for size) 0 k k (omega arith))

next_unit : (r : Reading UnitSpec) (i : ℕ) (before : List UnitSpec) (u : UnitSpec) (ds : Items) → r ≡ Ok u → (under (decimal i) r >>= λ u. said.units_from (before ++ u ∷ []) (i + 1) ds) ≡ said.units_from (before ++ u ∷ []) (i + 1) ds
next_unit r i before u ds h = ap (λ (x : Reading UnitSpec). under (decimal i) x >>= λ u. said.units_from (before ++ u ∷ []) (i + 1) ds) h

units_read : (size i a m : ℕ) → a + m ≤ 12 → 1 ≤ size → size ≤ 1048576 → said.units_from (specs_for size a) i (items_of (map (file.unit size) (range_with_len a m))) ≡ Ok (specs_for size (a + m))
units_read size i a zero low some few = let e : a ≡ a + 0 = omega arith in ap (λ (k : ℕ). Ok (specs_for size k)) e
units_read size i a (suc m) low some few =
    let e : a + 1 + m ≡ a + suc m = omega arith in
    next_unit (said.unit (specs_for size a) (file.unit size a)) i (specs_for size a) (spec_for size a) (items_of (map (file.unit size) (range_with_len (a + 1) m))) (unit_read size a (omega (arith, low)) some few)
    ∙ ap (λ (us : List UnitSpec). said.units_from us (i + 1) (items_of (map (file.unit size) (range_with_len (a + 1) m)))) (one_more size a)
    ∙ units_read size (i + 1) (a + 1) m (omega (arith, low)) some few
    ∙ ap (λ (k : ℕ). Ok (specs_for size k)) e

-- ------ the vehicle
abbrev vehicle_by : Reading (List UnitSpec) → Reading VehicleSpec
vehicle_by r =
    (under (codes "units") r >>= λ us. Ok (record { gateway = record { entity = 16384; gateway = []; units = map address_in us }; units = us }))
    >>= unless_strange None

vehicle_parts : (n : ℕ) → vehicle (file.vehicle_data n) ≡ vehicle_by (said.units_from [] 0 (items_of (map (file.unit (bytes_of n)) (range_with_len 0 (units_of n)))))
vehicle_parts n = refl

vehicle_read : (n : ℕ) → vehicle (file.vehicle_data n) ≡ Ok (vehicle_of_drill n)
vehicle_read n =
    let e : 0 + units_of n ≡ units_of n = omega arith in
    vehicle_parts n ∙ ap vehicle_by (units_read (bytes_of n) 0 0 (units_of n) (omega arith) (omega arith) (omega arith))
    ∙ ap (λ (k : ℕ). vehicle_by (Ok (specs_for (bytes_of n) k))) e

memory_few : (size a m : ℕ) → size ≤ 1048576 → memory_sizes (map (spec_for size) (range_with_len a m)) ≤ m * 1048576
memory_few size a zero few = omega arith
memory_few size a (suc m) few =
    let rest = memory_few size (a + 1) m few in
    let e : memory_sizes (map (spec_for size) (range_with_len a (suc m))) ≡ size + 0 + memory_sizes (map (spec_for size) (range_with_len (a + 1) m)) = refl in
    omega (arith, e, rest, few)

is_few_vehicle : (n : ℕ) → is_few (vehicle_of_drill n) ≡ true
is_few_vehicle n =
    let l : length (unit_specs n) ≡ units_of n = length-map-range_with_len (unit_spec n) 0 (units_of n) in
    let s : memory_sizes (unit_specs n) ≤ units_of n * 1048576 = memory_few (bytes_of n) 0 (units_of n) (omega arith) in
    let a : nat_le (length (unit_specs n)) 64 ≡ true = grind (arith, nat_tests, l) in
    let b : nat_le (memory_sizes (unit_specs n)) 67108864 ≡ true = grind (arith, nat_tests, s) in
    rw (a, b) refl

few_read : (r : Reading VehicleSpec) (v : VehicleSpec) → r ≡ Ok v → is_few v ≡ true → few_of r ≡ Ok v
few_read r v h few = rw (h, few) refl

value_read : (text : List ℕ) (d : Data) → is_utf8 text ≡ true → read text ≡ Some d → value_in text ≡ Some d
value_read text d u h = rw (u, h) refl

pub vehicle_is_read : (n : ℕ) (text : List ℕ) → IsTextOf (file.vehicle_data n) text → vehicle_of text ≡ Ok (vehicle_of_drill n)
vehicle_is_read n text t =
    ap vehicle_from (value_read text (file.vehicle_data n) t.utf8 t.reads)
    ∙ few_read (vehicle (file.vehicle_data n)) (vehicle_of_drill n) (vehicle_read n) (is_few_vehicle n)
