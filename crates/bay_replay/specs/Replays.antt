-- What a replay answers.
use Rattle.std.specs.Prelude.{◌≡◌, ◌⊎◌, ℕ, ◌+◌, ◌<◌, Bool, true, false, List, length, take, slice_get, Some, Result, Ok, Err}
use Rattle.flash_plan.specs.declared.outcome.Entry.{Entry}
use Rattle.flash_plan.specs.declared.unit.LinkRules.{LinkRules}
use Rattle.flash_plan.specs.declared.unit.UnitPlan.{UnitPlan}
use Rattle.barrier_board.specs.Board.{has_entry}
use Rattle.bay_core.specs.Core.{Core, core_of, core_start}
use Rattle.bay_core.specs.Legal.{is_allowed, is_legal}
use Rattle.bay_core.specs.declared.event.Event.{Event}
use Rattle.bay_replay.specs.declared.state.Core as kept
use Rattle.bay_replay.specs.declared.fault.ReplayFault.{ReplayFault}
use Rattle.bay_replay.specs.declared.fault.ReplayFault.TheVariants.{FirstBad, NoMemory}
use Rattle.bay_replay.specs.Held.{Told, Holds}

-- the core after events of a plan, from the entries that were found
abbrev pub core_by : LinkRules → List UnitPlan → List Entry → List Event → Core
core_by rules P found events = core_of rules P (core_start P (has_entry found)) events

abbrev pub told_by : LinkRules → List UnitPlan → List Entry → List Event → Told
told_by rules P found events = record { rules = rules; core = core_by rules P found events }

-- the event with a number is taken exactly where it is allowed after those before it
pub record TakesAt (rules : LinkRules) (P : List UnitPlan) (found : List Entry) (events : List Event) (i : ℕ)
    (ok : Bool) (k : kept.Core) : Type 0 where
  pub allowed : (e : Event) → slice_get events i ≡ Some e
      → ok ≡ is_allowed P (core_by rules P found (take i events)) e
  pub holds : ok ≡ true → Holds P k (told_by rules P found (take (i + 1) events))

-- The events before the place are legal, the one at it is not allowed after them, and so the whole list is not legal.
pub record IsFirstBad (rules : LinkRules) (P : List UnitPlan) (found : List Entry) (events : List Event)
    (place : ℕ) : Type 0 where
  pub within : place < length events
  pub before : is_legal rules P (core_start P (has_entry found)) (take place events) ≡ true
  pub bad : (e : Event) → slice_get events place ≡ Some e
      → is_allowed P (core_by rules P found (take place events)) e ≡ false
  pub illegal : is_legal rules P (core_start P (has_entry found)) events ≡ false

-- The list is legal, and the state is the one that its events make.
pub record IsReplayed (rules : LinkRules) (P : List UnitPlan) (found : List Entry) (events : List Event)
    (k : kept.Core) : Type 0 where
  pub legal : is_legal rules P (core_start P (has_entry found)) events ≡ true
  pub holds : Holds P k (told_by rules P found events)

abbrev pub Replays : LinkRules → List UnitPlan → List Entry → List Event → Result kept.Core ReplayFault
    → Type 0
Replays rules P found events (Ok k) = IsReplayed rules P found events k
Replays rules P found events (Err (FirstBad place)) = IsFirstBad rules P found events place
Replays rules P found events (Err NoMemory) = Unit {0}

-- Each list of events is legal, or has a first place that is not allowed: never both, and no two such places.
pub record HasOneAnswer : Type 0 where
  pub some : (rules : LinkRules) (P : List UnitPlan) (found : List Entry) (events : List Event)
      → (is_legal rules P (core_start P (has_entry found)) events ≡ true)
      ⊎ ((place : ℕ) × IsFirstBad rules P found events place)
  pub either : (rules : LinkRules) (P : List UnitPlan) (found : List Entry) (events : List Event) (place : ℕ)
      → is_legal rules P (core_start P (has_entry found)) events ≡ true
      → IsFirstBad rules P found events place → ⊥
  pub one : (rules : LinkRules) (P : List UnitPlan) (found : List Entry) (events : List Event) (p q : ℕ)
      → IsFirstBad rules P found events p → IsFirstBad rules P found events q → p ≡ q
