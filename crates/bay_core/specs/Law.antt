-- The law of the core: each allowed event keeps both parts of the joint state.
use Rattle.std.specs.Prelude.{◌≡◌, ℕ, ◌<◌, ◌+◌, Bool, List, [], ◌∷◌, length, IsTrue, MatchOption}
use Rattle.flash_plan.specs.Plan.{IsAccepted, plan_of, count_of, segment_of}
use Rattle.flash_plan.specs.declared.outcome.Entry.{Entry}
use Rattle.flash_plan.specs.declared.outcome.Entry.TheVariants.{Marked}
use Rattle.flash_plan.specs.declared.unit.LinkRules.{LinkRules}
use Rattle.flash_plan.specs.declared.unit.Segment.{Segment}
use Rattle.flash_plan.specs.declared.unit.UnitPlan.{UnitPlan}
use Rattle.run_model.specs.Sound.{IsSound, VehicleHas}
use Rattle.run_model.specs.Script.{request_at}
use Rattle.uds_codec.specs.Request.{range_of}
use Rattle.uds_codec.specs.declared.request.Request.{Request}
use Rattle.uds_codec.specs.declared.request.Request.TheVariants.{Routine}
use Rattle.unit_model.specs.Vehicle.{Vehicle}
use Rattle.bay_core.specs.declared.event.Event.{Event}
use Rattle.bay_core.specs.declared.event.Event.TheVariants.{Sent}
use Rattle.bay_core.specs.Core.{Core, core_start, core_after, core_of}
use Rattle.bay_core.specs.Joint.{IsVehicleJoint, IsRecordJoint}
use Rattle.bay_core.specs.Legal.{is_allowed, is_legal}
use Rattle.bay_core.specs.Moves.{MovesVehicle, Moves}

pub record State : Type 0 where
  pub vehicle : Vehicle
  pub records : Entry → Bool

-- ------ whatever moves with a list of events
-- the states after each event, one after another
abbrev pub StepsAll : {X : Type 0} → (Core → Event → X → X → Type 0) → LinkRules → List UnitPlan → Core
    → List Event → X → List X → Type 0
StepsAll Step rules P c [] x xs = xs ≡ []
StepsAll Step rules P c (e ∷ es) x [] = ⊥
StepsAll Step rules P c (e ∷ es) x (y ∷ ys) =
    Step c e x y × StepsAll Step rules P (core_after rules P e c) es y ys

-- what holds after each of them
abbrev pub HoldsAll : {X : Type 0} → (Core → X → Type 0) → LinkRules → List UnitPlan → Core → List Event → X
    → List X → Type 0
HoldsAll Holds rules P c [] x xs = Holds c x
HoldsAll Holds rules P c (e ∷ es) x [] = ⊥
HoldsAll Holds rules P c (e ∷ es) x (y ∷ ys) =
    Holds c x × HoldsAll Holds rules P (core_after rules P e c) es y ys

-- a vehicle alone
abbrev pub DrivesAll : LinkRules → List UnitPlan → Core → List Event → Vehicle → List Vehicle → Type 0
DrivesAll rules P c events v vehicles = StepsAll (MovesVehicle rules P) rules P c events v vehicles

-- a vehicle and records
abbrev pub MovesAll : LinkRules → List UnitPlan → Core → List Event → State → List State → Type 0
MovesAll rules P c events s states =
    StepsAll (λ d e x y. Moves rules P d e x.vehicle y.vehicle x.records y.records) rules P c events s states

-- ------ the law
-- Each allowed event keeps the first part, whatever the vehicle does with it; and beside the first part it keeps the second,
-- whatever the records do.
pub record StepLaw : Type 0 where
  pub vehicle : (rules : LinkRules) (P : List UnitPlan) (found : Entry → Bool) (c : Core) (e : Event)
      (v v2 : Vehicle) (t0 : ℕ)
      → IsAccepted P → IsTrue (is_allowed P c e) → MovesVehicle rules P c e v v2
      → IsVehicleJoint rules P found c v t0 → IsVehicleJoint rules P found (core_after rules P e c) v2 t0
  pub records : (rules : LinkRules) (P : List UnitPlan) (found : Entry → Bool) (c : Core) (e : Event)
      (R R2 : Entry → Bool) (v v2 v0 : Vehicle) (t0 : ℕ)
      → IsAccepted P → IsTrue (is_allowed P c e) → Moves rules P c e v v2 R R2
      → IsVehicleJoint rules P found c v t0 → IsRecordJoint P c R v v0
      → IsRecordJoint P (core_after rules P e c) R2 v2 v0

-- For each legal list of events of an accepted plan, the first part holds after each prefix, from any entries found, whatever
-- vehicle moves with the list. Where the entries found fit the vehicle at the start, the second part holds too.
pub record CoreLaw : Type 0 where
  pub vehicle : (rules : LinkRules) (P : List UnitPlan) (found : Entry → Bool) (events : List Event)
      (v : Vehicle) (vehicles : List Vehicle)
      → IsAccepted P → IsTrue (is_legal rules P (core_start P found) events)
      → DrivesAll rules P (core_start P found) events v vehicles
      → HoldsAll (λ c w. IsVehicleJoint rules P found c w v.gateway.tick) rules P
      (core_start P found) events v vehicles
  pub records : (rules : LinkRules) (P : List UnitPlan) (found : Entry → Bool) (events : List Event)
      (s : State) (states : List State) (v0 : Vehicle)
      → IsAccepted P → IsSound P found s.vehicle v0 → s.records ≡ found
      → IsTrue (is_legal rules P (core_start P found) events)
      → MovesAll rules P (core_start P found) events s states
      → HoldsAll (λ c x. IsRecordJoint P c x.records x.vehicle v0) rules P
      (core_start P found) events s states

-- ------ marked segments
-- the request erases a range that meets the segment (ISO 14229-1, service 0x31)
abbrev pub ErasesOf : Request → Segment → Type 0
ErasesOf (Routine id option) s = (id ≡ 65280)
    × MatchOption (range_of option) ⊥ (λ r. (s.at < r.at + r.size) × (r.at < s.at + length s.body))
ErasesOf r s = ⊥

-- no request of a legal list erases a segment that is recorded marked
abbrev pub EraseLaw : Type 0
EraseLaw = (rules : LinkRules) (P : List UnitPlan) (found : Entry → Bool) (events : List Event)
    (u place s : ℕ) (lost : Bool)
    → IsAccepted P → IsTrue (is_legal rules P (core_start P found) events)
    → IsTrue (is_allowed P (core_of rules P (core_start P found) events) (Sent u place lost))
    → s < length (plan_of P u).segments
    → IsTrue ((core_of rules P (core_start P found) events).recorded (Marked u s))
    → MatchOption (request_at (plan_of P u)
    ((core_of rules P (core_start P found) events).slots u).talk.place) (Unit {0})
    (λ r. ErasesOf r (segment_of (plan_of P u) s) → ⊥)

-- a segment that is recorded marked is in its unit, checked
abbrev pub MarkedLaw : Type 0
MarkedLaw = (P : List UnitPlan) (c : Core) (R : Entry → Bool) (v v0 : Vehicle) (n s : ℕ)
    → IsRecordJoint P c R v v0 → n < count_of P → s < length (plan_of P n).segments → IsTrue (R (Marked n s))
    → VehicleHas (plan_of P n) (segment_of (plan_of P n) s) v
