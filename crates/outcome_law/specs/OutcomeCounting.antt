-- What each outcome of a unit rests on, and what stopped the run: kept by each event.
use Rattle.std.specs.Prelude.{◌≡◌, ◌⊎◌, ℕ, ◌+◌, ◌<◌, ◌≤◌, Bool, true, List, Option, Some, None}
use Rattle.flash_plan.specs.Plan.{IsAccepted, plan_of, count_of}
use Rattle.flash_plan.specs.declared.outcome.Entry.{Entry}
use Rattle.flash_plan.specs.declared.outcome.Entry.TheVariants as entry
use Rattle.flash_plan.specs.declared.outcome.Outcome.{Outcome}
use Rattle.flash_plan.specs.declared.outcome.Outcome.TheVariants.{Complete, LinkLost, LinkRefused, DiskFault, NoMemory, Blocked}
use Rattle.flash_plan.specs.declared.unit.LinkRules.{LinkRules}
use Rattle.flash_plan.specs.declared.unit.UnitPlan.{UnitPlan}
use Rattle.unit_model.specs.Vehicle.{Vehicle}
use Rattle.run_model.specs.Script.{AtEnd}
use Rattle.bay_core.specs.Core.{Core, core_start, core_after, is_disk_failure}
use Rattle.bay_core.specs.Joint.{IsVehicleJoint}
use Rattle.bay_core.specs.Legal.{is_allowed}
use Rattle.bay_core.specs.Moves.{MovesVehicle}
use Rattle.bay_core.specs.declared.event.Event.{Event}
use Rattle.outcome_law.specs.Counting.{AreUnitsCounted}
use Rattle.outcome_law.specs.LinkCounting.{is_fault, fault_of, IsLostBy, IsLinkCounted}
use Rattle.outcome_law.specs.Outcomes.{IsBlockedBy, IsOutcomeCaused}
use Rattle.outcome_law.specs.Rising.{Rose}

-- the end of the unit's conversation; an append for it that failed; what stopped the run; want of memory; a unit that blocks it;
-- that complete is recorded
abbrev pub Rests : List UnitPlan → Core → ℕ → Outcome → Type 0
Rests P c n o =
    ((c.slots n).talk.place ≡ AtEnd o) ⊎ (((c.slots n).faulted ≡ true) × (o ≡ DiskFault))
    ⊎ (c.halt.stop ≡ Some o) ⊎ (o ≡ NoMemory)
    ⊎ ((by : ℕ) × (o ≡ Blocked by) × IsBlockedBy (plan_of P n) c by)
    ⊎ ((o ≡ Complete) × (c.recorded (entry.Complete n) ≡ true))

abbrev pub IsStopCounted : LinkRules → Bool → ℕ → Vehicle → Vehicle → Outcome → Type 0
IsStopCounted rules failed faults first now DiskFault = failed ≡ true
IsStopCounted rules failed faults first now (LinkLost times) = (times ≡ rules.relinks + 1)
    × IsLostBy (rules.relinks + 1) faults first now
IsStopCounted rules failed faults first now (LinkRefused code) =
    Rose (first.gateway.denied code) (now.gateway.denied code)
IsStopCounted rules failed faults first now outcome = ⊥

-- while the run goes on no more was lost than may be made anew
abbrev pub StopCounted : LinkRules → Bool → ℕ → Vehicle → Vehicle → ℕ → Option Outcome → Type 0
StopCounted rules failed faults first now losses None = losses ≤ rules.relinks
StopCounted rules failed faults first now losses (Some outcome) =
    IsStopCounted rules failed faults first now outcome

-- failed: whether an append failed. faults: how many calls of the link failed or were garbled.
pub record AreOutcomesCounted (rules : LinkRules) (P : List UnitPlan) (c : Core) (failed : Bool) (faults : ℕ)
    (first now : Vehicle) : Type 0 where
  pub link : IsLinkCounted c.link faults first now
  pub rests : (n : ℕ) (outcome : Outcome) → n < count_of P → (c.slots n).outcome ≡ Some outcome
      → Rests P c n outcome
  pub faulted : (n : ℕ) → (c.slots n).faulted ≡ true → failed ≡ true
  pub stop : StopCounted rules failed faults first now c.link.losses c.halt.stop

-- each allowed event keeps it beside the joint state
abbrev pub OutcomeCountingLaw : Type 0
OutcomeCountingLaw = (rules : LinkRules) (P : List UnitPlan) (found : Entry → Bool) (c : Core) (e : Event)
    (v v2 first : Vehicle) (t0 faults : ℕ) (failed failed2 : Bool)
    → IsAccepted P → (is_allowed P c e ≡ true) → MovesVehicle rules P c e v v2
    → IsVehicleJoint rules P found c v t0
    → (failed ≡ true → failed2 ≡ true) → (is_disk_failure e ≡ true → failed2 ≡ true)
    → AreOutcomesCounted rules P c failed faults first v
    → AreOutcomesCounted rules P (core_after rules P e c) failed2
    (faults + fault_of (is_fault e v v2)) first v2

-- at the start of a run both hold
pub record StartLaw : Type 0 where
  pub units : (rules : LinkRules) (P : List UnitPlan) (found : Entry → Bool) (v : Vehicle) (t0 : ℕ)
      → AreUnitsCounted rules P found t0 (core_start P found) v v
  pub outcomes : (rules : LinkRules) (P : List UnitPlan) (found : Entry → Bool) (v : Vehicle) (failed : Bool)
      → AreOutcomesCounted rules P (core_start P found) failed 0 v v

-- and together they say the cause of each outcome
abbrev pub CountedLaw : Type 0
CountedLaw = (rules : LinkRules) (P : List UnitPlan) (found : Entry → Bool) (c : Core) (failed : Bool)
    (faults : ℕ) (first now : Vehicle) (t0 n : ℕ) (outcome : Outcome)
    → n < count_of P → AreUnitsCounted rules P found t0 c first now
    → AreOutcomesCounted rules P c failed faults first now → (c.slots n).outcome ≡ Some outcome
    → IsOutcomeCaused rules (plan_of P n) found c n failed faults first now outcome
