-- A vehicle that has moved with the events of a run. What link, gateway and units hold of each other, what is counted of each
-- conversation and outcome, and which units are done, follows from this by the laws of the core.
use Rattle.std.specs.Prelude.{◌≡◌, ◌⊎◌, ℕ, Bool, List, MatchBool}
use Rattle.bay_core.specs.Core.{core_start}
use Rattle.bay_core.specs.Law.{DrivesAll}
use Rattle.bay_core.specs.declared.event.Event.{Event}
use Rattle.barrier_board.specs.Board.{has_entry}
use Rattle.flash_plan.specs.declared.outcome.Entry.{Entry}
use Rattle.flash_plan.specs.declared.unit.LinkRules.{LinkRules}
use Rattle.flash_plan.specs.declared.unit.UnitPlan.{UnitPlan}
use Rattle.flash_run.specs.Run.{RunState}
use Rattle.outcome_law.specs.Law.{last_vehicle}
use Rattle.outcome_law.specs.LinkCounting.{faults_of}
use Rattle.outcome_law.specs.Rising.{RoseBy}
use Rattle.shop_model.specs.History.{History, vehicle_now}
use Rattle.unit_model.specs.Poll.{Carries}
use Rattle.unit_model.specs.Vehicle.{Vehicle}

-- the vehicles after each event, from the first to the last; so many calls of the link failed or were garbled
pub record IsDriven (rules : LinkRules) (P : List UnitPlan) (found : Entry → Bool) (events : List Event)
    (first last : Vehicle) (faults : ℕ) : Type 0 where
  pub vehicles : List Vehicle
  pub drives : DrivesAll rules P (core_start P found) events first vehicles
  pub last_is : last_vehicle first vehicles ≡ last
  pub faults_are : faults_of events first vehicles ≡ faults

-- no call was made, or a receive whose bytes no event has
abbrev pub Strays : Vehicle → Vehicle → Type 0
Strays old new = (new ≡ old) ⊎ ((piece : List ℕ) × Carries piece old new)

-- The vehicle has moved with the events of the run since the opening, and is where the last one left it, or, in a run that was
-- stopped for want of memory, one receive further.
pub record IsTold (r : RunState) (first now : History) : Type 0 where
  pub last : Vehicle
  pub faults : ℕ
  pub driven : IsDriven r.rules r.plan (has_entry r.found) r.events (vehicle_now first) last faults
  pub rose : RoseBy faults first.link_faults now.link_faults
  pub stands : MatchBool r.starved (Strays last (vehicle_now now)) (vehicle_now now ≡ last)
