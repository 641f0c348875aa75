-- The steps of reading a vehicle.
use Rattle.std.proofs.Common.{◌≡◌, ◌⊎◌, ◌+◌, ◌<◌, ◌≤◌, ◌∙◌, inl, inr, cond, arith, suc, length, true, false, List, [], ◌∷◌, ℕ, Some, None, Result, Err, refl, sym, ap, subst}
use Rattle.std.specs.Prelude.{IfOk, min, nat_le}
use Rattle.std.proofs.lemmas.Bool.{cases_lt, le-leb, lt-leb}
use Rattle.std.specs.Str.{IsUtf8, is_utf8}
use Rattle.std.proofs.lemmas.Str.{is_utf8-from_IsUtf8, IsUtf8-from_is_utf8}
use Rattle.serde_json.specs.Data.{Data}
use Rattle.serde_json.specs.Read.{read}
use Rattle.serde_json.specs.View.{items_view}
use Rattle.serde_json.specs.declared.value.Value.{Value}
use Rattle.vehicle_file.specs.Files.{IsVehicleSpec, few_of, value_in, vehicle, vehicle_of}
use Rattle.vehicle_file.specs.Troubles.{item_count}
use Rattle.vehicle_file.specs.declared.fault.BenchFault.{BenchFault}
use Rattle.vehicle_file.specs.declared.fault.BenchFault.TheVariants as bench
use Rattle.vehicle_file.specs.declared.vehicle.VehicleSpec.{VehicleSpec}
use Rattle.vehicle_file.proofs.Wholes.{read_is}

pub count_of : (vs : List Value) → item_count (items_view vs) ≡ length vs
count_of [] = refl
count_of (v ∷ vs) = ap suc (count_of vs)

-- ------ numbers
pub capped : (x m top : ℕ) → m < top → nat_le (min x top) m ≡ nat_le x m
capped x m top lt = elim (cases_lt m x) [
  | inl more ↦
      let no : nat_le x m ≡ false = lt-leb x m more in
      let neither : nat_le (min x top) m ≡ false = lt-leb (min x top) m (omega (arith, more, lt)) in
      neither ∙ sym no
  | inr few ↦
      let yes : nat_le x m ≡ true = le-leb x m few in
      let both : nat_le (min x top) m ≡ true = le-leb (min x top) m (omega (arith, few)) in
      both ∙ sym yes
]

-- a sum that was capped at each step
pub capped_whole : (top all whole rest : ℕ) → all ≤ top → min whole top ≡ min (all + rest) top → rest ≡ 0 → all ≡ min whole top
capped_whole top all whole rest le same none = omega (arith, le, same, none)

-- ------ texts
pub vehicle_of-value : (bytes : List ℕ) (d : Data) → IsUtf8 bytes → read bytes ≡ Some d → vehicle_of bytes ≡ few_of (vehicle d)
vehicle_of-value bytes d u r = rw (is_utf8-from_IsUtf8 bytes u, r) refl

pub vehicle_of-none : (bytes : List ℕ) → (IsUtf8 bytes → read bytes ≡ None) → vehicle_of bytes ≡ Err bench.NotJson
vehicle_of-none bytes r =
    let value : value_in bytes ≡ None = elim (is_utf8 bytes) as (λ b. is_utf8 bytes ≡ b → cond b (read bytes) None ≡ None) [ true ↦ λ e. r (IsUtf8-from_is_utf8 bytes e) | false ↦ λ e. refl ] refl in
    rw value refl

pub formed : (bytes : List ℕ) (r : Result VehicleSpec BenchFault) → (r ≡ Err bench.NoMemory) ⊎ (r ≡ vehicle_of bytes) → IfOk r IsVehicleSpec
formed bytes r (inl e) = subst (λ (s : Result VehicleSpec BenchFault). IfOk s IsVehicleSpec) (sym e) tt
formed bytes r (inr e) = subst (λ (s : Result VehicleSpec BenchFault). IfOk s IsVehicleSpec) (sym e) (read_is bytes)
