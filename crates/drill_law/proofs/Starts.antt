-- A drill starts with an empty journal.
use Rattle.std.proofs.Common.{◌≡◌, ◌∙◌, inl, ℕ, ◌≤◌, List, [], length, map, Bool, true, false, ◌&&◌, IsTrue, refl, sym, ap, subst, arith}
use Rattle.bay_law.specs.Sentence.{IsSoundAt}
use Rattle.flash_journal.specs.Look.{Opens}
use Rattle.flash_plan.specs.declared.outcome.Entry.{Entry}
use Rattle.flash_plan.specs.declared.outcome.Entry.TheVariants.{Begun, Complete, Marked}
use Rattle.flash_plan.specs.declared.unit.UnitPlan.{UnitPlan}
use Rattle.journal_model.specs.Records.{form_of, has, label_of, records}
use Rattle.journal_steps.proofs.Made.{fresh_no_journal, fresh_short}
use Rattle.outcome_law.specs.Outcomes.{AllMatch}
use Rattle.run_model.specs.Sound.{IsSound}
use Rattle.unit_model.specs.Running.{unit_of}
use Rattle.unit_model.specs.Vehicle.{Vehicle}
use Rattle.drill_law.specs.Laws.{no_file}
use Rattle.drill_law.specs.Plans.{plan_of_drill}
use Rattle.drill_law.specs.Vehicles.{unit_specs}
use Rattle.drill_law.proofs.Matched.{units_match}

-- a short image records nothing
none_recorded : (P : List UnitPlan) (image : List ℕ) → length image ≤ 1 → (e : Entry) → records (label_of P) image e ≡ false
none_recorded P image short e =
    ap (λ (b : Bool). b && has (form_of (label_of P) image) image e) (fresh_no_journal (label_of P) image (fresh_short image short))

not_true : (b : Bool) → b ≡ false → IsTrue b → ⊥
not_true b f t = let e : false ≡ true = sym f ∙ t in cc

-- records of nothing fit a vehicle as it is
unrecorded : (P : List UnitPlan) (R : Entry → Bool) → ((e : Entry) → R e ≡ false) → (v : Vehicle) → IsSound P R v v
unrecorded P R none v n h = record {
  outside = λ a out. refl;
  complete = λ t. absurd (not_true (R (Complete n)) (none (Complete n)) t);
  untouched = λ isnt a. refl;
  ordered = λ t. absurd (not_true (R (Begun n)) (none (Begun n)) t);
  waits = λ isnt. omega arith;
  marked = λ s l t. absurd (not_true (R (Marked n s)) (none (Marked n s)) t);
}

pub empty_sound : (P : List UnitPlan) (v : Vehicle) → IsSoundAt P v no_file v
empty_sound P v image crash =
    let short : length image ≤ 0 = crash.no_longer in
    unrecorded P (records (label_of P) image) (none_recorded P image (omega (arith, short))) v

pub empty_opens : (P : List UnitPlan) → Opens (label_of P) []
empty_opens P = inl refl

pub empty_matches : (n : ℕ) (v : Vehicle) → v.units ≡ map unit_of (unit_specs n) → AllMatch (plan_of_drill n) (records (label_of (plan_of_drill n)) []) v
empty_matches n v are =
    let none : (e : Entry) → records (label_of (plan_of_drill n)) [] e ≡ false = none_recorded (plan_of_drill n) [] (omega arith) in
    let nothing : records (label_of (plan_of_drill n)) [] ≡ (λ e. false) = λ i e. none e i in
    subst (λ (R : Entry → Bool). AllMatch (plan_of_drill n) R v) (sym nothing) (units_match n v are).1
