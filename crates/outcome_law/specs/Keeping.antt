-- Completeness by what each event keeps, for a run that keeps no list of its vehicles; and the cause of a disk fault by the
-- events alone, whatever vehicle there is.
use Rattle.std.specs.Prelude.{◌≡◌, ◌⊎◌, ℕ, ◌<◌, Bool, true, false, List, Some, IsTrue}
use Rattle.flash_plan.specs.Plan.{IsAccepted, plan_of, count_of}
use Rattle.flash_plan.specs.declared.outcome.Entry.{Entry}
use Rattle.flash_plan.specs.declared.outcome.Entry.TheVariants.{Begun}
use Rattle.flash_plan.specs.declared.outcome.Outcome.{Outcome}
use Rattle.flash_plan.specs.declared.outcome.Outcome.TheVariants.{Complete, DiskFault}
use Rattle.flash_plan.specs.declared.unit.LinkRules.{LinkRules}
use Rattle.flash_plan.specs.declared.unit.UnitPlan.{UnitPlan}
use Rattle.unit_model.specs.Vehicle.{Vehicle, unit_at}
use Rattle.run_model.specs.Entries.{marks_of}
use Rattle.run_model.specs.Troubles.{IsVehicleCalm}
use Rattle.bay_core.specs.Core.{Core, core_start, core_of}
use Rattle.bay_core.specs.Legal.{is_legal}
use Rattle.bay_core.specs.Stops.{has_failure}
use Rattle.bay_core.specs.declared.event.Event.{Event}
use Rattle.outcome_law.specs.Counting.{AreUnitsCounted}
use Rattle.outcome_law.specs.Law.{IsCalmUnit, IsMatchingRun, GoesOn}
use Rattle.outcome_law.specs.OutcomeCounting.{AreOutcomesCounted}
use Rattle.outcome_law.specs.Outcomes.{IsCalmOutcome, IsOfRun, MatchesAt, AllMatch, LacksMemory}

-- unit n is there, matches by what was found, and has not departed since the vehicle was `first`
abbrev pub IsCalmMatch : List UnitPlan → (Entry → Bool) → ℕ → Vehicle → Vehicle → Type 0
IsCalmMatch P found n first now =
    IsCalmUnit (IsMatchingRun (found (Begun n)) (plan_of P n) (marks_of found n))
    (unit_at first.units (plan_of P n).address) (unit_at now.units (plan_of P n).address)

-- its conversation does not end but at Done
abbrev pub KeptDoneLaw : Type 0
KeptDoneLaw = (rules : LinkRules) (P : List UnitPlan) (found : Entry → Bool) (c : Core)
    → (first now : Vehicle) (t0 n : ℕ)
    → AreUnitsCounted rules P found t0 c first now
    → n < count_of P → IsCalmMatch P found n first now
    → GoesOn (plan_of P n) (c.recorded (Begun n)) (c.slots n).talk.place (c.slots n).talk.number

-- its outcome is complete or comes of the run
abbrev pub KeptRecordedLaw : Type 0
KeptRecordedLaw = (rules : LinkRules) (P : List UnitPlan) (found : Entry → Bool) (c : Core)
    → (failed : Bool) (faults : ℕ) (first now : Vehicle) (t0 n : ℕ) (outcome : Outcome)
    → AreUnitsCounted rules P found t0 c first now → AreOutcomesCounted rules P c failed faults first now
    → n < count_of P → (c.slots n).outcome ≡ Some outcome → IsCalmMatch P found n first now → IsOfRun outcome

-- no append failed, no call of the link failed or was garbled, and the vehicle has not departed
pub record IsFine (failed : Bool) (faults : ℕ) (first now : Vehicle) : Type 0 where
  pub disk : failed ≡ false
  pub link : faults ≡ 0
  pub vehicle : IsVehicleCalm first now

-- unit n is there and matches by what was found
abbrev pub MatchesFound : List UnitPlan → (Entry → Bool) → ℕ → Vehicle → Type 0
MatchesFound P found n first =
    MatchesAt (found (Begun n)) (plan_of P n) (marks_of found n) (unit_at first.units (plan_of P n).address)

-- then the outcome of a unit that matches is complete, or there was no memory for it, or it is blocked
abbrev pub KeptUntroubledLaw : Type 0
KeptUntroubledLaw = (rules : LinkRules) (P : List UnitPlan) (found : Entry → Bool) (c : Core)
    → (failed : Bool) (faults : ℕ) (first now : Vehicle) (t0 n : ℕ) (outcome : Outcome)
    → AreUnitsCounted rules P found t0 c first now → AreOutcomesCounted rules P c failed faults first now
    → IsFine failed faults first now → n < count_of P → (c.slots n).outcome ≡ Some outcome
    → MatchesFound P found n first → IsCalmOutcome outcome

-- and where every unit matches, each outcome is complete, but for want of memory
abbrev pub KeptCompleteLaw : Type 0
KeptCompleteLaw = (rules : LinkRules) (P : List UnitPlan) (found : Entry → Bool) (c : Core)
    → (failed : Bool) (faults : ℕ) (first now : Vehicle) (t0 n : ℕ) (outcome : Outcome) → IsAccepted P
    → AreUnitsCounted rules P found t0 c first now → AreOutcomesCounted rules P c failed faults first now
    → IsFine failed faults first now → n < count_of P → (c.slots n).outcome ≡ Some outcome
    → AllMatch P found first → (outcome ≡ Complete) ⊎ LacksMemory P c

-- ------ by the events alone
-- a unit has the outcome disk fault only where an append failed
abbrev pub DiskFaultLaw : Type 0
DiskFaultLaw = (rules : LinkRules) (P : List UnitPlan) (found : Entry → Bool) (events : List Event) (n : ℕ)
    → IsAccepted P → IsTrue (is_legal rules P (core_start P found) events) → n < count_of P
    → ((core_of rules P (core_start P found) events).slots n).outcome ≡ Some DiskFault
    → has_failure events ≡ true

-- the core knows whether one has
abbrev pub FailedLaw : Type 0
FailedLaw = (rules : LinkRules) (P : List UnitPlan) (found : Entry → Bool) (events : List Event)
    → (core_of rules P (core_start P found) events).halt.failed ≡ has_failure events
