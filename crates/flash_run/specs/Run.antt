-- A run: its plan, its rules, the entries that were found, its events, and whether it was stopped for want of memory. All else
-- follows from these.
use Rattle.std.specs.Prelude.{◌≡◌, ℕ, ◌+◌, ◌-◌, ◌*◌, ◌<◌, ◌≤◌, suc, zero, Bool, true, false, not, ◌&&◌, ◌||◌, List, [], ◌∷◌, ◌++◌, Option, Some, None, is_some, is_none, if◌then◌else◌}
use Rattle.barrier_board.specs.Board.{has_entry, says_complete}
use Rattle.barrier_board.specs.declared.board.Claimed.{Claimed}
use Rattle.barrier_board.specs.declared.board.Claimed.TheVariants.{Unit as Took, Nothing}
use Rattle.bay_core.specs.Core.{Core, Slot, core_start, link_stop}
use Rattle.bay_core.specs.Joint.{IsSane}
use Rattle.bay_core.specs.Legal.{is_allowed, is_legal, is_open_unit}
use Rattle.bay_core.specs.declared.event.Event.{Event}
use Rattle.bay_core.specs.declared.event.Log.{Log}
use Rattle.bay_core.specs.declared.event.Event.TheVariants.{Claimed as Claimed_event, Began, Sent, Collected, Tended, Marked, Completed, DiskFailed, Ended}
use Rattle.bay_replay.specs.Held.{Told, Holds, shut}
use Rattle.bay_replay.specs.Replays.{core_by}
use Rattle.bay_replay.specs.declared.state.Core as kept
use Rattle.flash_plan.specs.Plan.{IsAccepted, count_of}
use Rattle.flash_plan.specs.declared.outcome.Entry.{Entry}
use Rattle.flash_plan.specs.declared.outcome.Entry.TheVariants as entry
use Rattle.flash_plan.specs.declared.unit.LinkRules.{LinkRules}
use Rattle.flash_plan.specs.declared.unit.UnitPlan.{UnitPlan}
use Rattle.run_model.specs.Script.{Place, AtIdent, AtBegin}
use Rattle.flash_run.specs.Notes.{NotesState}

pub record RunState : Type 0 where
  pub plan : List UnitPlan
  pub rules : LinkRules
  pub found : List Entry
  pub events : List Event
  pub starved : Bool
  pub room : ℕ

-- what the events have made of units, link and records
abbrev pub core_of_run : RunState → Core
core_of_run r = core_by r.rules r.plan r.found r.events

-- what is kept of it: where a receive found no memory, no connection and no attempt that was under way
abbrev pub seen_core : List UnitPlan → Bool → Core → Core
seen_core P starved c = if starved then shut P c else c

-- what a run leaves of itself
abbrev pub log_of : RunState → Log
log_of r = record { found = r.found; events = r.events }

abbrev pub told_seen : List UnitPlan → LinkRules → List Entry → List Event → Bool → Told
told_seen P rules found events starved =
    record { rules = rules; core = seen_core P starved (core_by rules P found events) }

-- ------ which events may come
abbrev pub is_complete_entry : Entry → Bool
is_complete_entry (entry.Begun u) = false
is_complete_entry (entry.Marked u s) = false
is_complete_entry (entry.Complete u) = true

-- those that may still come in a run that was stopped for want of memory
abbrev pub is_closing : Event → Bool
is_closing (Claimed_event u) = false
is_closing (Began u) = false
is_closing (Sent u place lost) = false
is_closing (Collected u heard) = false
is_closing (Tended step) = false
is_closing (Marked u s) = false
is_closing (Completed u) = true
is_closing (DiskFailed u e) = is_complete_entry e
is_closing (Ended u outcome) = true

-- the event is allowed after those of the run
abbrev pub may_take : RunState → Event → Bool
may_take r e = (not r.starved || is_closing e) && is_allowed r.plan (core_of_run r) e

-- claimed and without outcome
abbrev pub is_open : RunState → ℕ → Bool
is_open r u = is_open_unit r.plan (core_of_run r) u

-- by an event of the run, or for want of memory
abbrev pub is_stopped : RunState → Bool
is_stopped r = r.starved || is_some (core_of_run r).halt.stop

-- ------ the run with one event more, or with more room
abbrev pub with_event : Event → RunState → RunState
with_event e r = record r { events = r.events ++ e ∷ []; room = r.room - 1 }

abbrev pub with_room : ℕ → RunState → RunState
with_room more r = record r { room = r.room + more }

-- a receive found no memory, and the room for its event is given back
abbrev pub starving : RunState → RunState
starving r = record r { starved = true; room = r.room - 1 }

-- ------ room
abbrev pub sum_below : ℕ → (ℕ → ℕ) → ℕ
sum_below zero f = 0
sum_below (suc n) f = sum_below n f + f n

-- a unit may still be claimed, its append may still fail, and it may still get its outcome, once each
abbrev pub left_of : Slot → ℕ
left_of s = (if s.claimed then 0 else 1) + (if s.faulted then 0 else 1) + (if is_none s.outcome then 1 else 0)

-- how many events that want no memory may still come
abbrev pub left_in : List UnitPlan → Core → ℕ
left_in P c = sum_below (count_of P) (λ n. left_of (c.slots n))

-- ------ the type's invariant
-- no answer was had yet, or only those of identifiers
abbrev pub is_early : Place → Bool
is_early (AtIdent w ws) = true
is_early AtBegin = true
is_early place = false

-- what each event keeps of the core beside its sanity
pub record IsSettled (rules : LinkRules) (c : Core) : Type 0 where
  -- before a failed append, nothing differs from what it was before the failed appends that stand directly before
  pub before : c.halt.failed ≡ false → c.before ≡ c.halt
  -- a link that would stop the run has stopped it
  pub running : c.halt.stop ≡ None → link_stop rules c.link ≡ None
  -- an append for a unit has failed only where one has failed, and then the run is stopped
  pub faulted : (n : ℕ) → (c.slots n).faulted ≡ true → c.halt.failed ≡ true
  pub failed : c.halt.failed ≡ true → is_some c.halt.stop ≡ true
  -- a conversation that stands before Begin is of a unit that is not begun
  pub early : (n : ℕ) → is_early (c.slots n).talk.place ≡ true → c.recorded (entry.Begun n) ≡ false

-- The plan is accepted, the events are legal and make what is kept, and there is room for each that wants no memory.
pub record IsLogged (P : List UnitPlan) (rules : LinkRules) (found : List Entry) (notes : NotesState)
    (starved : Bool) (k : kept.Core) : Type 0 where
  pub accepted : IsAccepted P
  pub legal : is_legal rules P (core_start P (has_entry found)) notes.events ≡ true
  pub holds : Holds P k (told_seen P rules found notes.events starved)
  pub sane : IsSane P (core_by rules P found notes.events)
  pub settled : IsSettled rules (core_by rules P found notes.events)
  pub room : left_in P (core_by rules P found notes.events) ≤ notes.room

-- ------ the calls
-- before any event: room for one claim, one completion, one failed append and one end of each unit
abbrev pub run_start : List UnitPlan → LinkRules → List Entry → RunState
run_start P rules found = record {
  plan = P;
  rules = rules;
  found = found;
  events = [];
  starved = false;
  room = 4 * count_of P;
}

-- the lowest unit that is ready was claimed, or none may be claimed and nothing changed
abbrev pub ClaimsNext : RunState → Claimed → RunState → Type 0
ClaimsNext old (Took u) new = (may_take old (Claimed_event u) ≡ true)
    × (new ≡ with_event (Claimed_event u) old)
ClaimsNext old Nothing new = (new ≡ old) × ((u : ℕ) → may_take old (Claimed_event u) ≡ false)

-- the lowest unit that is open, if there is one
abbrev pub IsUnfinished : RunState → Option ℕ → Type 0
IsUnfinished r None = (n : ℕ) → is_open r n ≡ false
IsUnfinished r (Some u) = (u < count_of r.plan) × (is_open r u ≡ true)
    × ((n : ℕ) → n < u → is_open r n ≡ false)

-- a unit's outcome is Complete exactly where that is recorded
abbrev pub IsCompleteKept : List UnitPlan → Core → Type 0
IsCompleteKept P c = (n : ℕ) → n < count_of P
    → says_complete (c.slots n).outcome ≡ c.recorded (entry.Complete n)

-- what every run keeps, for callers
pub record IsKept (r : RunState) : Type 0 where
  pub accepted : IsAccepted r.plan
  pub legal : is_legal r.rules r.plan (core_start r.plan (has_entry r.found)) r.events ≡ true
  pub sane : IsSane r.plan (core_of_run r)
  pub settled : IsSettled r.rules (core_of_run r)
  pub complete : IsCompleteKept r.plan (core_of_run r)
  pub room : left_in r.plan (core_of_run r) ≤ r.room
