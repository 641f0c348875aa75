-- Which call is due for a unit of a run, and with which outcome it ends.
use Rattle.std.specs.Prelude.{◌≡◌, ◌≢◌, ℕ, Bool, true, false, not, ◌&&◌, ◌||◌, Option, Some, None, if◌then◌else◌}
use Rattle.bay_core.specs.Core.{Core}
use Rattle.bay_core.specs.Legal.{fits_inbox, has_message}
use Rattle.bay_core.specs.declared.event.Event.TheVariants.{Began, Sent, Collected, Marked, Completed, Ended}
use Rattle.bay_core.specs.declared.event.Heard.{Heard}
use Rattle.flash_plan.specs.Plan.{plan_of}
use Rattle.flash_plan.specs.declared.outcome.Outcome.{Outcome}
use Rattle.flash_plan.specs.declared.outcome.Outcome.TheVariants.{DiskFault, NoMemory}
use Rattle.run_model.specs.Link.{is_up}
use Rattle.unit_session.specs.Session.{ask_of}
use Rattle.unit_session.specs.declared.session.Ask.{Ask}
use Rattle.unit_session.specs.declared.session.Ask.TheVariants as ask
use Rattle.flash_run.specs.Run.{RunState, core_of_run, seen_core, is_open, is_stopped, may_take}
use Rattle.flash_run.specs.declared.need.Need.{Need}
use Rattle.flash_run.specs.declared.need.Need.TheVariants as need

-- what is next in the conversation of a unit
abbrev pub ask_in : RunState → ℕ → Ask
ask_in r u = ask_of (plan_of r.plan u) ((core_of_run r).slots u).talk

-- the same of what is kept
abbrev pub seen_ask : RunState → ℕ → Ask
seen_ask r u = ask_of (plan_of r.plan u) ((seen_core r.plan r.starved (core_of_run r)).slots u).talk

abbrev pub says_done : Ask → Bool
says_done ask.Done = true
says_done a = false

abbrev pub says_ended : Ask → Bool
says_ended (ask.Ended outcome) = true
says_ended a = false

abbrev pub says_mark : Ask → Bool
says_mark (ask.Mark segment) = true
says_mark a = false

-- the step of the conversation itself
abbrev pub step_of : Ask → Need
step_of ask.Begin = need.Begin
step_of ask.Send = need.Send
step_of ask.Wait = need.Collect
step_of (ask.Mark segment) = need.Mark
step_of ask.Done = need.End
step_of (ask.Ended outcome) = need.End

-- the link is up and owes no alive answer
abbrev pub is_linked : Core → Bool
is_linked c = is_up c.link.phase && not c.link.owes

-- the first that applies: failed says that an append has failed, so that the journal is closed; stopped, that the run is; linked,
-- that the link is up and owes nothing
abbrev pub need_by : Bool → Bool → Bool → Ask → Need
need_by failed stopped linked a =
    if says_done a && not failed then need.Complete
    else if says_ended a || stopped then need.End
    else if says_mark a then need.Mark
    else if not linked then need.Tend
    else step_of a

-- the one call that is due for a unit; none where it is not claimed or has its outcome
abbrev pub need_of : RunState → ℕ → Need
need_of r u = if is_open r u then need_by (core_of_run r).halt.failed (is_stopped r)
    (is_linked (core_of_run r)) (ask_in r u) else need.Gone

-- ------ outcomes
abbrev pub stop_or : Option Outcome → Outcome
stop_or None = NoMemory
stop_or (Some outcome) = outcome

-- what first stopped the run; want of memory stops one that was not stopped
abbrev pub stop_outcome : RunState → Outcome
stop_outcome r = if r.starved then NoMemory else stop_or (core_of_run r).halt.stop

abbrev pub ended_or : Ask → Outcome → Outcome
ended_or (ask.Ended outcome) other = outcome
ended_or a other = other

-- a disk fault, where an append for the unit failed, and else what stopped the run
abbrev pub stop_for : RunState → ℕ → Outcome
stop_for r u = if ((core_of_run r).slots u).faulted then DiskFault else stop_outcome r

-- the first that applies: the end of the unit's conversation; a disk fault, where an append for it failed; what stopped the run
abbrev pub due_outcome : RunState → ℕ → Outcome
due_outcome r u = ended_or (ask_in r u) (stop_for r u)

-- ------ what is due is allowed
pub record AreDue (r : RunState) : Type 0 where
  pub begin : (u : ℕ) → need_of r u ≡ need.Begin → may_take r (Began u) ≡ true
  pub mark : (u s : ℕ) → need_of r u ≡ need.Mark → ask_in r u ≡ ask.Mark s → may_take r (Marked u s) ≡ true
  pub complete : (u : ℕ) → need_of r u ≡ need.Complete → may_take r (Completed u) ≡ true
  pub send : (u : ℕ) (lost : Bool) → need_of r u ≡ need.Send
      → may_take r (Sent u ((core_of_run r).slots u).talk.number lost) ≡ true
  pub collect : (u : ℕ) (h : Heard) → need_of r u ≡ need.Collect
      → fits_inbox h (has_message r.plan (core_of_run r) u) ≡ true → may_take r (Collected u h) ≡ true
  pub end : (u : ℕ) → need_of r u ≡ need.End → may_take r (Ended u (due_outcome r u)) ≡ true
  -- want of memory may end each unit that is open
  pub want : (u : ℕ) → is_open r u ≡ true → may_take r (Ended u NoMemory) ≡ true
  pub gone : (u : ℕ) → need_of r u ≢ need.Gone → is_open r u ≡ true
