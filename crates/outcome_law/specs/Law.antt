-- The causes of outcomes over every legal list of events.
use Rattle.std.specs.Prelude.{◌≡◌, ◌⊎◌, ℕ, ◌+◌, ◌<◌, ◌≤◌, Bool, true, false, List, [], ◌∷◌, Option, Some, None, IsTrue}
use Rattle.flash_plan.specs.Plan.{IsAccepted, IsAcceptedUnit, plan_of, count_of}
use Rattle.flash_plan.specs.declared.outcome.Entry.{Entry}
use Rattle.flash_plan.specs.declared.outcome.Entry.TheVariants.{Begun}
use Rattle.flash_plan.specs.declared.outcome.Outcome.{Outcome}
use Rattle.flash_plan.specs.declared.outcome.Outcome.TheVariants.{IdentMismatch, CheckFailed}
use Rattle.flash_plan.specs.declared.unit.LinkRules.{LinkRules}
use Rattle.flash_plan.specs.declared.unit.UnitPlan.{UnitPlan}
use Rattle.uds_codec.specs.Answer.{Accepted, judge}
use Rattle.unit_model.specs.Unit.{ControlUnit, obedient}
use Rattle.unit_model.specs.Vehicle.{Vehicle, unit_at}
use Rattle.run_model.specs.Entries.{marks_of}
use Rattle.run_model.specs.Matching.{IsMatching}
use Rattle.run_model.specs.Places.{IsPlace, IsAsked, is_ended, needs_request}
use Rattle.run_model.specs.Script.{Place, AtDone, AtEnd, bytes_at, place_next, start_place}
use Rattle.run_model.specs.States.{StateAt}
use Rattle.run_model.specs.Troubles.{AreCalm}
use Rattle.unit_session.specs.Left.{requests_left}
use Rattle.bay_core.specs.Core.{Core, core_start, core_after, core_of}
use Rattle.bay_core.specs.Joint.{IsVehicleJoint}
use Rattle.bay_core.specs.Law.{DrivesAll}
use Rattle.bay_core.specs.Legal.{is_allowed, is_legal}
use Rattle.bay_core.specs.Moves.{MovesVehicle}
use Rattle.bay_core.specs.declared.event.Event.{Event}
use Rattle.outcome_law.specs.Causes.{Unfit, OtherIdent, HasNoneChecked, IsCaused}
use Rattle.outcome_law.specs.Counting.{Takes, IsIdentPlace, AreUnitsCounted}

-- ------ a run: its events, and the vehicle that moved with them
abbrev pub last_vehicle : Vehicle → List Vehicle → Vehicle
last_vehicle v [] = v
last_vehicle v (w ∷ vehicles) = last_vehicle w vehicles

-- a legal list of events of an accepted plan, from any entries found
pub record IsRun (rules : LinkRules) (P : List UnitPlan) (found : Entry → Bool) (events : List Event)
    (v : Vehicle) (vehicles : List Vehicle) : Type 0 where
  pub accepted : IsAccepted P
  pub legal : IsTrue (is_legal rules P (core_start P found) events)
  pub drives : DrivesAll rules P (core_start P found) events v vehicles

-- ------ the causes
-- each conversation that has ended
abbrev pub EndsCaused : List UnitPlan → (Entry → Bool) → Core → Vehicle → Vehicle → Type 0
EndsCaused P found c first now = (n : ℕ) (outcome : Outcome) → n < count_of P
    → (c.slots n).talk.place ≡ AtEnd outcome
    → IsCaused (plan_of P n) (c.recorded (Begun n)) (marks_of found n)
    (unit_at first.units (plan_of P n).address) (unit_at now.units (plan_of P n).address) outcome

abbrev pub CauseLaw : Type 0
CauseLaw = (rules : LinkRules) (P : List UnitPlan) (found : Entry → Bool) (events : List Event) (v : Vehicle)
    (vehicles : List Vehicle)
    → IsRun rules P found events v vehicles
    → EndsCaused P found (core_of rules P (core_start P found) events) v (last_vehicle v vehicles)

-- what is counted is kept by each allowed event beside the joint state
abbrev pub CountingLaw : Type 0
CountingLaw = (rules : LinkRules) (P : List UnitPlan) (found : Entry → Bool) (c : Core) (e : Event)
    (v v2 first : Vehicle) (t0 : ℕ)
    → IsAccepted P → IsTrue (is_allowed P c e) → MovesVehicle rules P c e v v2
    → IsVehicleJoint rules P found c v t0
    → AreUnitsCounted rules P found t0 c first v
    → AreUnitsCounted rules P found t0 (core_after rules P e c) first v2

-- ------ without a departure
-- the unit is there and has not departed
abbrev pub IsCalmUnit : (ControlUnit → Type 0) → Option ControlUnit → Option ControlUnit → Type 0
IsCalmUnit Is (Some u) (Some w) = Is u × AreCalm u.counts w.counts
IsCalmUnit Is first now = ⊥

abbrev pub AnyUnit : ControlUnit → Type 0
AnyUnit u = Unit {0}

-- a unit that does not fit ends its conversation as the table of unfit units says, and otherwise by its identifiers' values, or by a
-- whole check that finds nothing
abbrev pub IsUnfitEnd : UnitPlan → Bool → (ℕ → Bool) → Option ControlUnit → Outcome → Type 0
IsUnfitEnd plan begun found None outcome = ⊥
IsUnfitEnd plan begun found (Some u) outcome =
    Unfit plan begun u outcome ⊎ ((did : ℕ) × (outcome ≡ IdentMismatch did) × OtherIdent plan begun u did)
    ⊎ ((segment : ℕ) × (status : ℕ) × (outcome ≡ CheckFailed 65281 segment status)
    × HasNoneChecked plan found u)

abbrev pub CalmLaw : Type 0
CalmLaw = (rules : LinkRules) (P : List UnitPlan) (found : Entry → Bool) (events : List Event) (v : Vehicle)
    (vehicles : List Vehicle) (n : ℕ) (outcome : Outcome)
    → IsRun rules P found events v vehicles → n < count_of P
    → (((core_of rules P (core_start P found) events).slots n).talk.place ≡ AtEnd outcome)
    → IsCalmUnit AnyUnit (unit_at v.units (plan_of P n).address)
    (unit_at (last_vehicle v vehicles).units (plan_of P n).address)
    → IsUnfitEnd (plan_of P n) ((core_of rules P (core_start P found) events).recorded (Begun n))
    (marks_of found n) (unit_at v.units (plan_of P n).address) outcome

-- the unit matches, and where every segment was found marked, it has a range that was checked, as it has where the entries found fit
-- the vehicle
pub record IsMatchingRun (begun : Bool) (plan : UnitPlan) (found : ℕ → Bool) (u : ControlUnit) : Type 0 where
  pub matching : IsMatching begun plan u
  pub checked : HasNoneChecked plan found u → ⊥

-- a unit that matches ends it with no outcome
abbrev pub MatchingLaw : Type 0
MatchingLaw = (rules : LinkRules) (P : List UnitPlan) (found : Entry → Bool) (events : List Event)
    (v : Vehicle) (vehicles : List Vehicle) (n : ℕ) (outcome : Outcome)
    → IsRun rules P found events v vehicles → n < count_of P
    → IsCalmUnit (IsMatchingRun (found (Begun n)) (plan_of P n) (marks_of found n))
    (unit_at v.units (plan_of P n).address) (unit_at (last_vehicle v vehicles).units (plan_of P n).address)
    → (((core_of rules P (core_start P found) events).slots n).talk.place ≡ AtEnd outcome) → ⊥

-- ------ to the end of the script
-- the obedient answer at a place is positive and in the form, and leads to another place of the script, with fewer requests left
pub record AnswersWell (plan : UnitPlan) (place : Place) (u : ControlUnit) : Type 0 where
  pub rest : List ℕ
  pub good : judge (bytes_at plan place) (obedient u (bytes_at plan place)).1 ≡ Accepted rest
  pub on : (skipped : ℕ → Bool) → is_ended (place_next plan skipped place rest) ≡ false
  pub fewer : (skipped : ℕ → Bool)
      → requests_left plan (place_next plan skipped place rest) + 1 ≤ requests_left plan place

-- so it is at each place with a request, of a unit that matches and is in the state that the answers so far have led to
abbrev pub ObedientLaw : Type 0
ObedientLaw = (plan : UnitPlan) (begun : Bool) (found : ℕ → Bool) (place : Place) (first u : ControlUnit)
    → IsAcceptedUnit plan → IsPlace plan place → IsAsked plan place → IsIdentPlace plan begun place
    → needs_request place ≡ true
    → StateAt plan place u → Takes plan found first place u → (HasNoneChecked plan found first → ⊥)
    → IsMatching begun plan u → AnswersWell plan place u

-- The conversation with a unit that matches and has not departed does not end but at Done: it stands at a place of its script, and
-- each final answer leaves fewer requests to make. So it is at Done after as many answers as an attempt behind Begun has
-- requests at most.
pub record GoesOn (plan : UnitPlan) (begun : Bool) (place : Place) (number : ℕ) : Type 0 where
  pub goes : is_ended place ≡ false
  pub left : number + requests_left plan place ≤ requests_left plan (start_place plan begun)
  pub done : begun ≡ true → requests_left plan (start_place plan begun) ≤ number → place ≡ AtDone

abbrev pub DoneLaw : Type 0
DoneLaw = (rules : LinkRules) (P : List UnitPlan) (found : Entry → Bool) (events : List Event) (v : Vehicle)
    (vehicles : List Vehicle) (n : ℕ)
    → IsRun rules P found events v vehicles → n < count_of P
    → IsCalmUnit (IsMatchingRun (found (Begun n)) (plan_of P n) (marks_of found n))
    (unit_at v.units (plan_of P n).address) (unit_at (last_vehicle v vehicles).units (plan_of P n).address)
    → GoesOn (plan_of P n) ((core_of rules P (core_start P found) events).recorded (Begun n))
    ((core_of rules P (core_start P found) events).slots n).talk.place
    ((core_of rules P (core_start P found) events).slots n).talk.number
