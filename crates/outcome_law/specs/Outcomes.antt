-- The causes of the outcomes that are recorded of units.
use Rattle.std.specs.Prelude.{◌≡◌, ◌⊎◌, ℕ, ◌+◌, ◌<◌, Bool, true, false, List, Option, Some, None, is_some, Contains}
use Rattle.flash_plan.specs.Plan.{plan_of, count_of}
use Rattle.flash_plan.specs.declared.outcome.Entry.{Entry}
use Rattle.flash_plan.specs.declared.outcome.Entry.TheVariants as entry
use Rattle.flash_plan.specs.declared.outcome.Outcome.{Outcome}
use Rattle.flash_plan.specs.declared.outcome.Outcome.TheVariants.{Complete, LinkLost, LinkRefused, DiskFault, NoMemory, Blocked}
use Rattle.flash_plan.specs.declared.unit.LinkRules.{LinkRules}
use Rattle.flash_plan.specs.declared.unit.UnitPlan.{UnitPlan}
use Rattle.unit_model.specs.Unit.{ControlUnit}
use Rattle.unit_model.specs.Vehicle.{Vehicle, unit_at}
use Rattle.run_model.specs.Entries.{marks_of}
use Rattle.run_model.specs.Troubles.{IsVehicleCalm}
use Rattle.bay_core.specs.Core.{Core, core_start, core_of}
use Rattle.bay_core.specs.Stops.{has_failure}
use Rattle.bay_core.specs.declared.event.Event.{Event}
use Rattle.outcome_law.specs.Causes.{IsCaused}
use Rattle.outcome_law.specs.Law.{IsRun, last_vehicle, IsCalmUnit, IsMatchingRun}
use Rattle.outcome_law.specs.LinkCounting.{faults_of, IsLostBy}
use Rattle.outcome_law.specs.Rising.{Rose}

-- the lowest unit that has to be complete first and is not; it has an outcome
pub record IsBlockedBy (plan : UnitPlan) (c : Core) (by : ℕ) : Type 0 where
  pub listed : Contains plan.after by
  pub incomplete : c.recorded (entry.Complete by) ≡ false
  pub lowest : (w : ℕ) → Contains plan.after w → w < by → c.recorded (entry.Complete w) ≡ true
  pub ended : is_some (c.slots by).outcome ≡ true

-- The table of outcomes: those of a conversation by its causes; a lost link where more was lost than may be made anew, by faults
-- of the link and activations that were not answered in time; a denied one where the denial was counted; a disk fault where an
-- append failed; want of memory is free.
abbrev pub IsOutcomeCaused : LinkRules → UnitPlan → (Entry → Bool) → Core → ℕ → Bool → ℕ → Vehicle → Vehicle
    → Outcome → Type 0
IsOutcomeCaused rules plan found c n failed faults first now Complete = c.recorded (entry.Complete n) ≡ true
IsOutcomeCaused rules plan found c n failed faults first now DiskFault = failed ≡ true
IsOutcomeCaused rules plan found c n failed faults first now NoMemory = Unit {0}
IsOutcomeCaused rules plan found c n failed faults first now (Blocked by) = IsBlockedBy plan c by
IsOutcomeCaused rules plan found c n failed faults first now (LinkLost times) = (times ≡ rules.relinks + 1)
    × IsLostBy (rules.relinks + 1) faults first now
IsOutcomeCaused rules plan found c n failed faults first now (LinkRefused code) =
    Rose (first.gateway.denied code) (now.gateway.denied code)
IsOutcomeCaused rules plan found c n failed faults first now outcome =
    IsCaused plan (c.recorded (entry.Begun n)) (marks_of found n) (unit_at first.units plan.address)
    (unit_at now.units plan.address) outcome

abbrev pub OutcomeLaw : Type 0
OutcomeLaw = (rules : LinkRules) (P : List UnitPlan) (found : Entry → Bool) (events : List Event)
    (v : Vehicle) (vehicles : List Vehicle) (n : ℕ) (outcome : Outcome)
    → IsRun rules P found events v vehicles → n < count_of P
    → (((core_of rules P (core_start P found) events).slots n).outcome ≡ Some outcome)
    → IsOutcomeCaused rules (plan_of P n) found (core_of rules P (core_start P found) events) n
    (has_failure events) (faults_of events v vehicles) v (last_vehicle v vehicles) outcome

-- complete, or not for anything that a vehicle does
abbrev pub IsCalmOutcome : Outcome → Type 0
IsCalmOutcome Complete = Unit {0}
IsCalmOutcome NoMemory = Unit {0}
IsCalmOutcome (Blocked by) = Unit {0}
IsCalmOutcome outcome = ⊥

-- not an outcome of the unit's own conversation
abbrev pub IsOfRun : Outcome → Type 0
IsOfRun Complete = Unit {0}
IsOfRun NoMemory = Unit {0}
IsOfRun (Blocked by) = Unit {0}
IsOfRun DiskFault = Unit {0}
IsOfRun (LinkLost times) = Unit {0}
IsOfRun (LinkRefused code) = Unit {0}
IsOfRun outcome = ⊥

-- of a unit that matches and has not departed, complete is recorded, or what came of the run and not of the unit
abbrev pub RecordedLaw : Type 0
RecordedLaw = (rules : LinkRules) (P : List UnitPlan) (found : Entry → Bool) (events : List Event)
    (v : Vehicle) (vehicles : List Vehicle) (n : ℕ) (outcome : Outcome)
    → IsRun rules P found events v vehicles → n < count_of P
    → (((core_of rules P (core_start P found) events).slots n).outcome ≡ Some outcome)
    → IsCalmUnit (IsMatchingRun (found (entry.Begun n)) (plan_of P n) (marks_of found n))
    (unit_at v.units (plan_of P n).address) (unit_at (last_vehicle v vehicles).units (plan_of P n).address)
    → IsOfRun outcome

abbrev pub MatchesAt : Bool → UnitPlan → (ℕ → Bool) → Option ControlUnit → Type 0
MatchesAt begun plan found None = ⊥
MatchesAt begun plan found (Some u) = IsMatchingRun begun plan found u

-- Where no append failed, no call of the link failed or was garbled and the vehicle has not departed, a unit that matches is
-- complete, or there was no memory for it, or one that it waits for is not complete.
abbrev pub UntroubledLaw : Type 0
UntroubledLaw = (rules : LinkRules) (P : List UnitPlan) (found : Entry → Bool) (events : List Event)
    (v : Vehicle) (vehicles : List Vehicle) (n : ℕ) (outcome : Outcome)
    → IsRun rules P found events v vehicles → n < count_of P
    → (((core_of rules P (core_start P found) events).slots n).outcome ≡ Some outcome)
    → has_failure events ≡ false → faults_of events v vehicles ≡ 0 → IsVehicleCalm v (last_vehicle v vehicles)
    → MatchesAt (found (entry.Begun n)) (plan_of P n) (marks_of found n)
    (unit_at v.units (plan_of P n).address) → IsCalmOutcome outcome

-- every unit of the plan matches by what was found
abbrev pub AllMatch : List UnitPlan → (Entry → Bool) → Vehicle → Type 0
AllMatch P found v = (n : ℕ) → n < count_of P
    → MatchesAt (found (entry.Begun n)) (plan_of P n) (marks_of found n)
    (unit_at v.units (plan_of P n).address)

-- there was no memory for some unit
pub record LacksMemory (P : List UnitPlan) (c : Core) : Type 0 where
  pub unit : ℕ
  pub below : unit < count_of P
  pub none : (c.slots unit).outcome ≡ Some NoMemory

-- So where every unit matches, each outcome is complete, but for want of memory.
abbrev pub CompleteLaw : Type 0
CompleteLaw = (rules : LinkRules) (P : List UnitPlan) (found : Entry → Bool) (events : List Event)
    (v : Vehicle) (vehicles : List Vehicle) (n : ℕ) (outcome : Outcome)
    → IsRun rules P found events v vehicles → n < count_of P
    → (((core_of rules P (core_start P found) events).slots n).outcome ≡ Some outcome)
    → has_failure events ≡ false → faults_of events v vehicles ≡ 0 → IsVehicleCalm v (last_vehicle v vehicles)
    → AllMatch P found v
    → (outcome ≡ Complete) ⊎ LacksMemory P (core_of rules P (core_start P found) events)
