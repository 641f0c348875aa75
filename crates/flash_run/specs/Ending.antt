-- What the units without outcome get at the end of a run.
use Rattle.std.specs.Prelude.{◌≡◌, ℕ, ◌<◌, Bool, true, false, ◌&&◌, List, [], ◌∷◌, Option, Some, None, is_none, Contains, if◌then◌else◌}
use Rattle.bay_core.specs.Legal.{is_ready}
use Rattle.bay_core.specs.declared.event.Event.{Event}
use Rattle.bay_core.specs.declared.event.Event.TheVariants.{Ended}
use Rattle.flash_plan.specs.Plan.{plan_of, count_of}
use Rattle.flash_plan.specs.declared.outcome.Entry.{Entry}
use Rattle.flash_plan.specs.declared.outcome.Entry.TheVariants as entry
use Rattle.flash_plan.specs.declared.outcome.Outcome.{Outcome}
use Rattle.flash_plan.specs.declared.outcome.Outcome.TheVariants.{Blocked, NoMemory}
use Rattle.flash_run.specs.Group.{takes_all, TakesAll}
use Rattle.flash_run.specs.Need.{stop_for}
use Rattle.flash_run.specs.Run.{RunState, core_of_run, is_open, is_stopped, may_take}

-- the first of these units that is not complete
abbrev pub first_lacking : (Entry → Bool) → List ℕ → Option ℕ
first_lacking records [] = None
first_lacking records (w ∷ ws) = if records (entry.Complete w) then first_lacking records ws else Some w

abbrev pub blocked_by : Option ℕ → Outcome
blocked_by None = NoMemory
blocked_by (Some w) = Blocked w

-- what stopped the run, and else the lowest unit of `after` that is not complete
abbrev pub left_outcome : RunState → ℕ → Outcome
left_outcome r n = if is_stopped r then stop_for r n
    else blocked_by (first_lacking (core_of_run r).recorded (plan_of r.plan n).after)

abbrev pub lacks_outcome : RunState → ℕ → Bool
lacks_outcome r n = is_none ((core_of_run r).slots n).outcome

-- no unit is ready, or the run is stopped
abbrev pub NoneReady : RunState → Type 0
NoneReady r = is_stopped r ≡ false → (n : ℕ) → is_ready r.plan (core_of_run r) n ≡ false

-- no unit is open, and none would be claimed
pub record IsOver (r : RunState) : Type 0 where
  pub closed : (n : ℕ) → is_open r n ≡ false
  pub idle : NoneReady r

-- ------ one unit
abbrev pub IsBlocking : RunState → ℕ → Option Outcome → Type 0
IsBlocking r n (Some o) = (w : ℕ) × (o ≡ Blocked w) × (may_take r (Ended n (Blocked w)) ≡ true)
IsBlocking r n None = (w : ℕ) → Contains (plan_of r.plan n).after w → may_take r (Ended n (Blocked w)) ≡ false

-- what the unit gets now, if it has no outcome yet; where nothing stopped the run, it waits for what blocks it
abbrev pub EndsNow : RunState → ℕ → Option Outcome → Type 0
EndsNow r n (Some o) = (lacks_outcome r n ≡ true) × (o ≡ left_outcome r n) × (may_take r (Ended n o) ≡ true)
EndsNow r n None = lacks_outcome r n ≡ true → (is_stopped r ≡ false) × IsBlocking r n None

abbrev pub EndsSome : RunState → Option (ℕ × Outcome) → Type 0
EndsSome r (Some p) = (p.0 < count_of r.plan) × EndsNow r p.0 (Some p.1)
EndsSome r None = (n : ℕ) → n < count_of r.plan → EndsNow r n None

-- ------ all of them
-- the events are ends alone
abbrev pub is_end_event : Event → Bool
is_end_event (Ended n o) = true
is_end_event e = false

abbrev pub are_ends : List Event → Bool
are_ends [] = true
are_ends (e ∷ es) = is_end_event e && are_ends es

-- each unit that had no outcome got what was left for it, by an event, and the others keep theirs
pub record Finishes (old new : RunState) : Type 0 where
  pub events : List Event
  pub are : are_ends events ≡ true
  pub takes : TakesAll old events
  pub becomes : new ≡ takes_all events old
  pub stay : (n : ℕ) → lacks_outcome old n ≡ false
      → ((core_of_run new).slots n).outcome ≡ ((core_of_run old).slots n).outcome
  pub given : (n : ℕ) → n < count_of old.plan → lacks_outcome old n ≡ true
      → ((core_of_run new).slots n).outcome ≡ Some (left_outcome old n)

abbrev pub AllEnded : RunState → Type 0
AllEnded r = (n : ℕ) → n < count_of r.plan → lacks_outcome r n ≡ false
