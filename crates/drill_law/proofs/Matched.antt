-- The units of a drill match its plan.
use Rattle.std.proofs.Common.{◌≡◌, ◌∙◌, ℕ, zero, suc, ◌+◌, ◌<◌, List, [], ◌∷◌, ◌++◌, length, map, replicate, true, false, Bool, ◌==◌, Some, Option, is_some, refl, sym, ap, subst, arith}
use Rattle.std.specs.Prelude.{MatchOption}
use Rattle.std.specs.List.{range_with_len}
use Rattle.std.proofs.lemmas.Bool.Decides.{nat_tests}
use Rattle.std.proofs.lemmas.List.{length-replicate}
use Rattle.std.proofs.lemmas.List.FromFn.{length-map-range_with_len}
use Rattle.bench_gen.specs.Sizes.{bytes_of, image_byte, image_of, units_of}
use Rattle.flash_base.specs.ByteMaps.{byte_at}
use Rattle.flash_plan.specs.Plan.{count_of, nth_plan, plan_of}
use Rattle.flash_plan.specs.declared.outcome.Entry.{Entry}
use Rattle.flash_plan.specs.declared.unit.UnitPlan.{UnitPlan}
use Rattle.outcome_law.specs.Causes.{HasNoneChecked}
use Rattle.outcome_law.specs.Law.{IsMatchingRun}
use Rattle.outcome_law.specs.Outcomes.{AllMatch, MatchesAt}
use Rattle.run_model.specs.Matching.{IsFitting, IsMatching, Matches}
use Rattle.run_model.specs.States.{HasRoom}
use Rattle.unit_model.specs.Regions.{laid}
use Rattle.unit_model.specs.Running.{unit_of}
use Rattle.unit_model.specs.Unit.{ControlUnit}
use Rattle.unit_model.specs.Vehicle.{Vehicle, unit_at}
use Rattle.drill_law.specs.Plans.{plan_of_drill, unit_plan}
use Rattle.drill_law.specs.Vehicles.{unit_spec, unit_specs}

-- ------ room for its image
laid_has : (at : ℕ) (xs : List ℕ) (rest : List (ℕ × ℕ)) (j : ℕ) → j < length xs → is_some (byte_at (laid at xs ++ rest) (at + j)) ≡ true
laid_has at [] rest j h = absurd (omega (arith, h))
laid_has at (x ∷ xs) rest zero h = let e : (at == at + 0) ≡ true = grind (arith, nat_tests) in rw e refl
laid_has at (x ∷ xs) rest (suc j) h =
    let e : (at == at + suc j) ≡ false = grind (arith, nat_tests) in
    let s : at + 1 + j ≡ at + suc j = omega arith in
    rw e (ap (λ (a : ℕ). is_some (byte_at (laid (at + 1) xs ++ rest) a)) (sym s) ∙ laid_has (at + 1) xs rest j (omega (arith, h)))

has_room : (n k : ℕ) → HasRoom (record { at = 65536; body = image_of n k }) (unit_of (unit_spec n k))
has_room n k j h =
    let l : length (image_of n k) ≡ bytes_of n = length-map-range_with_len (image_byte n k) 0 (bytes_of n) in
    let fill : ℕ = 255 in
    let r : length {A = ℕ} (replicate (bytes_of n) fill) ≡ bytes_of n = length-replicate (bytes_of n) fill in
    laid_has 65536 (replicate (bytes_of n) 255) [] j (omega (arith, h, l, r))

-- ------ a unit and its task
fits : (n k : ℕ) → IsFitting (unit_plan n k) (unit_of (unit_spec n k))
fits n k = record {
  idents = (tt, tt);
  segments = (has_room n k, tt);
  key = refl;
  check = refl;
  block = omega arith;
  seed = omega arith;
  short_seed = omega arith;
  open_seed = λ h. let e : 18 ≡ 0 = h.0 in absurd (omega (arith, e));
}

matches : (n k : ℕ) → IsMatching false (unit_plan n k) (unit_of (unit_spec n k))
matches n k = record { fits = fits n k; values = λ e. ((0, omega arith, refl), tt) }

-- ------ by its address
unit_found : (n a m k : ℕ) → k < m → unit_at (map unit_of (map (unit_spec n) (range_with_len a m))) (4096 + (a + k)) ≡ Some (unit_of (unit_spec n (a + k)))
unit_found n a zero k h = absurd (omega (arith, h))
unit_found n a (suc m) zero h =
    let e : (4096 + a == 4096 + (a + 0)) ≡ true = grind (arith, nat_tests) in
    let s : a ≡ a + 0 = omega arith in
    rw e (ap (λ (j : ℕ). Some (unit_of (unit_spec n j))) s)
unit_found n a (suc m) (suc k) h =
    let e : (4096 + a == 4096 + (a + suc k)) ≡ false = grind (arith, nat_tests) in
    let s : a + 1 + k ≡ a + suc k = omega arith in
    rw e (subst (λ (j : ℕ). unit_at (map unit_of (map (unit_spec n) (range_with_len (a + 1) m))) (4096 + j) ≡ Some (unit_of (unit_spec n j))) s (unit_found n (a + 1) m k (omega (arith, h))))

unit_there : (n k : ℕ) → k < units_of n → unit_at (map unit_of (unit_specs n)) (4096 + k) ≡ Some (unit_of (unit_spec n k))
unit_there n k h =
    let e : 0 + k ≡ k = omega arith in
    subst (λ (j : ℕ). unit_at (map unit_of (unit_specs n)) (4096 + j) ≡ Some (unit_of (unit_spec n j))) e (unit_found n 0 (units_of n) k h)

nth_unit : (n a m k : ℕ) → k < m → nth_plan (map (unit_plan n) (range_with_len a m)) k ≡ unit_plan n (a + k)
nth_unit n a zero k h = absurd (omega (arith, h))
nth_unit n a (suc m) zero h = let e : a ≡ a + 0 = omega arith in ap (unit_plan n) e
nth_unit n a (suc m) (suc k) h = let e : a + 1 + k ≡ a + suc k = omega arith in nth_unit n (a + 1) m k (omega (arith, h)) ∙ ap (unit_plan n) e

pub plan_unit : (n k : ℕ) → k < units_of n → plan_of (plan_of_drill n) k ≡ unit_plan n k
plan_unit n k h = let e : 0 + k ≡ k = omega arith in nth_unit n 0 (units_of n) k h ∙ ap (unit_plan n) e

pub plan_count : (n : ℕ) → count_of (plan_of_drill n) ≡ units_of n
plan_count n = length-map-range_with_len (unit_plan n) 0 (units_of n)

-- ------ all of them
nothing : Entry → Bool
nothing e = false

none_checked : (n k : ℕ) (marks : ℕ → Bool) → ((s : ℕ) → marks s ≡ false) → HasNoneChecked (unit_plan n k) marks (unit_of (unit_spec n k)) → ⊥
none_checked n k marks none h =
    let e : true ≡ false = sym (h.marked 0 (omega arith)) ∙ none 0 in
    cc

module _ (n : ℕ) (v : Vehicle) (are : v.units ≡ map unit_of (unit_specs n)) where
  found : (k : ℕ) → k < units_of n → unit_at v.units (plan_of (plan_of_drill n) k).address ≡ Some (unit_of (unit_spec n k))
  found k h =
      ap (λ (u : UnitPlan). unit_at v.units u.address) (plan_unit n k h) ∙ ap (λ (us : List ControlUnit). unit_at us (4096 + k)) are ∙ unit_there n k h

  match_one : (k : ℕ) → k < count_of (plan_of_drill n) → MatchOption (unit_at v.units (plan_of (plan_of_drill n) k).address) ⊥ (IsMatching false (plan_of (plan_of_drill n) k))
  match_one k h =
      let low : k < units_of n = omega (arith, h, plan_count n) in
      subst (λ (o : Option ControlUnit). MatchOption o ⊥ (IsMatching false (plan_of (plan_of_drill n) k))) (sym (found k low))
      (subst (λ (u : UnitPlan). IsMatching false u (unit_of (unit_spec n k))) (sym (plan_unit n k low)) (matches n k))

  run_one : (k : ℕ) → k < count_of (plan_of_drill n) → MatchesAt false (plan_of (plan_of_drill n) k) (λ s. false) (unit_at v.units (plan_of (plan_of_drill n) k).address)
  run_one k h =
      let low : k < units_of n = omega (arith, h, plan_count n) in
      subst (λ (o : Option ControlUnit). MatchesAt false (plan_of (plan_of_drill n) k) (λ s. false) o) (sym (found k low))
      (subst (λ (u : UnitPlan). IsMatchingRun false u (λ s. false) (unit_of (unit_spec n k))) (sym (plan_unit n k low))
      (record { matching = matches n k; checked = none_checked n k (λ s. false) (λ s. refl) }))

  pub units_match : Matches (plan_of_drill n) (λ e. false) v × AllMatch (plan_of_drill n) (λ e. false) v
  units_match = (match_one, run_one)
