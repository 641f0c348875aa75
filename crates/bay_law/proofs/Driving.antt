-- A vehicle that moves with one event more.
use Rattle.std.proofs.Common.{◌≡◌, ℕ, ◌+◌, true, List, [], ◌∷◌, ◌++◌, refl, sym, ap, subst, arith}
use Rattle.std.specs.Prelude.{Bool}
use Rattle.bay_core.proofs.OneStep.{core_law}
use Rattle.bay_core.specs.Core.{Core, core_start, core_after, core_of}
use Rattle.bay_core.specs.Joint.{IsVehicleJoint}
use Rattle.bay_core.specs.Law.{DrivesAll, HoldsAll}
use Rattle.bay_core.specs.Legal.{is_legal}
use Rattle.bay_core.specs.Moves.{MovesVehicle}
use Rattle.bay_core.specs.declared.event.Event.{Event}
use Rattle.flash_plan.specs.Plan.{IsAccepted}
use Rattle.flash_plan.specs.declared.outcome.Entry.{Entry}
use Rattle.flash_plan.specs.declared.unit.LinkRules.{LinkRules}
use Rattle.flash_plan.specs.declared.unit.UnitPlan.{UnitPlan}
use Rattle.outcome_law.specs.Law.{IsRun, last_vehicle}
use Rattle.outcome_law.specs.LinkCounting.{faults_of, fault_of, is_fault}
use Rattle.unit_model.specs.Vehicle.{Vehicle}
use Rattle.bay_law.specs.Driven.{IsDriven}

some_not_none : {T : Type 0} (x : T) (xs : List T) → x ∷ xs ≡ [] → ⊥
some_not_none x xs e = cc

-- as many vehicles as events
drives_more : (rules : LinkRules) (P : List UnitPlan) (c : Core) (events : List Event) (v : Vehicle) (vs : List Vehicle) (e : Event) (w : Vehicle) → DrivesAll rules P c events v vs → MovesVehicle rules P (core_of rules P c events) e (last_vehicle v vs) w
    → DrivesAll rules P c (events ++ e ∷ []) v (vs ++ w ∷ [])
drives_more rules P c [] v [] e w d did = (did, refl)
drives_more rules P c [] v (y ∷ ys) e w d did = absurd (some_not_none y ys d)
drives_more rules P c (x ∷ xs) v [] e w d did = absurd d
drives_more rules P c (x ∷ xs) v (y ∷ ys) e w d did = (d.0, drives_more rules P (core_after rules P x c) xs y ys e w d.1 did)

last_more : (v : Vehicle) (vs : List Vehicle) (w : Vehicle) → last_vehicle v (vs ++ w ∷ []) ≡ w
last_more v [] w = refl
last_more v (y ∷ ys) w = last_more y ys w

faults_more : (rules : LinkRules) (P : List UnitPlan) (c : Core) (events : List Event) (v : Vehicle) (vs : List Vehicle) (e : Event) (w : Vehicle) → DrivesAll rules P c events v vs
    → faults_of (events ++ e ∷ []) v (vs ++ w ∷ []) ≡ faults_of events v vs + fault_of (is_fault e (last_vehicle v vs) w)
faults_more rules P c [] v [] e w d = omega arith
faults_more rules P c [] v (y ∷ ys) e w d = absurd (some_not_none y ys d)
faults_more rules P c (x ∷ xs) v [] e w d = absurd d
faults_more rules P c (x ∷ xs) v (y ∷ ys) e w d = omega (arith, faults_more rules P (core_after rules P x c) xs y ys e w d.1)

pub driven_start : (rules : LinkRules) (P : List UnitPlan) (found : Entry → Bool) (v : Vehicle) → IsDriven rules P found [] v v 0
driven_start rules P found v = record { vehicles = []; drives = refl; last_is = refl; faults_are = refl }

pub driven_more : (rules : LinkRules) (P : List UnitPlan) (found : Entry → Bool) (events : List Event) (first last : Vehicle) (faults : ℕ) (e : Event) (w : Vehicle) → IsDriven rules P found events first last faults
    → MovesVehicle rules P (core_of rules P (core_start P found) events) e last w → IsDriven rules P found (events ++ e ∷ []) first w (faults + fault_of (is_fault e last w))
driven_more rules P found events first last faults e w d did =
    let moved : MovesVehicle rules P (core_of rules P (core_start P found) events) e (last_vehicle first d.vehicles) w =
    subst (λ (x : Vehicle). MovesVehicle rules P (core_of rules P (core_start P found) events) e x w) (sym d.last_is) did in
    let count : faults_of (events ++ e ∷ []) first (d.vehicles ++ w ∷ []) ≡ faults_of events first d.vehicles + fault_of (is_fault e (last_vehicle first d.vehicles) w) =
    faults_more rules P (core_start P found) events first d.vehicles e w d.drives in
    let same : fault_of (is_fault e (last_vehicle first d.vehicles) w) ≡ fault_of (is_fault e last w) = ap (λ (x : Vehicle). fault_of (is_fault e x w)) d.last_is in
    record {
      vehicles = d.vehicles ++ w ∷ [];
      drives = drives_more rules P (core_start P found) events first d.vehicles e w d.drives moved;
      last_is = last_more first d.vehicles w;
      faults_are = omega (arith, count, same, d.faults_are);
    }

-- ------ what follows
holds_last : (Holds : Core → Vehicle → Type 0) (rules : LinkRules) (P : List UnitPlan) (c : Core) (events : List Event) (v : Vehicle) (vs : List Vehicle) → DrivesAll rules P c events v vs → HoldsAll Holds rules P c events v vs
    → Holds (core_of rules P c events) (last_vehicle v vs)
holds_last Holds rules P c [] v [] d all = all
holds_last Holds rules P c [] v (y ∷ ys) d all = absurd (some_not_none y ys d)
holds_last Holds rules P c (x ∷ xs) v [] d all = absurd d
holds_last Holds rules P c (x ∷ xs) v (y ∷ ys) d all = holds_last Holds rules P (core_after rules P x c) xs y ys d.1 all.1

pub driven_run : (rules : LinkRules) (P : List UnitPlan) (found : Entry → Bool) (events : List Event) (first last : Vehicle) (faults : ℕ) → IsAccepted P → is_legal rules P (core_start P found) events ≡ true
    → (d : IsDriven rules P found events first last faults) → IsRun rules P found events first d.vehicles
driven_run rules P found events first last faults accepted legal d = record { accepted = accepted; legal = legal; drives = d.drives }

-- link, gateway and units hold of each other what each event keeps
pub driven_joint : (rules : LinkRules) (P : List UnitPlan) (found : Entry → Bool) (events : List Event) (first last : Vehicle) (faults : ℕ) → IsAccepted P → is_legal rules P (core_start P found) events ≡ true
    → IsDriven rules P found events first last faults → IsVehicleJoint rules P found (core_of rules P (core_start P found) events) last first.gateway.tick
driven_joint rules P found events first last faults accepted legal d =
    let all : HoldsAll (λ c w. IsVehicleJoint rules P found c w first.gateway.tick) rules P (core_start P found) events first d.vehicles = core_law.vehicle rules P found events first d.vehicles accepted legal d.drives in
    subst (λ (x : Vehicle). IsVehicleJoint rules P found (core_of rules P (core_start P found) events) x first.gateway.tick) d.last_is
    (holds_last (λ c w. IsVehicleJoint rules P found c w first.gateway.tick) rules P (core_start P found) events first d.vehicles d.drives all)
