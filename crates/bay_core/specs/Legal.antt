-- Which events are allowed.
use Rattle.std.specs.Prelude.{ℕ, Bool, true, false, ◌&&◌, ◌||◌, ◌==◌, not, nat_lt, List, [], ◌∷◌, length, Option, Some, None, is_some, is_none, if◌then◌else◌}
use Rattle.flash_base.specs.Lists.{all_of}
use Rattle.flash_base.specs.Numbers.{each_below}
use Rattle.flash_plan.specs.declared.outcome.Outcome.TheVariants.{DiskFault, NoMemory, Blocked}
use Rattle.flash_plan.specs.declared.unit.UnitPlan.{UnitPlan}
use Rattle.flash_plan.specs.declared.unit.LinkRules.{LinkRules}
use Rattle.flash_plan.specs.declared.outcome.Entry.{Entry}
use Rattle.flash_plan.specs.declared.outcome.Entry.TheVariants as entry
use Rattle.flash_plan.specs.declared.outcome.Outcome.{Outcome}
use Rattle.flash_plan.specs.Outcomes.{same_outcome}
use Rattle.flash_plan.specs.Plan.{plan_of, count_of}
use Rattle.bay_core.specs.declared.event.Heard.{Heard}
use Rattle.bay_core.specs.declared.event.Heard.TheVariants.{Kept, Quiet, Piece, Lost}
use Rattle.bay_core.specs.declared.event.Tend.{Tend}
use Rattle.bay_core.specs.declared.event.Tend.TheVariants.{Dialed, Asked, Said, Polled}
use Rattle.bay_core.specs.declared.event.Event.{Event}
use Rattle.bay_core.specs.declared.event.Event.TheVariants.{Claimed, Began, Sent, Collected, Tended, Marked, Completed, DiskFailed, Ended}
use Rattle.run_model.specs.Link.{is_down, is_dialed, is_asked, is_up, first_message}
use Rattle.run_model.specs.Script.{Place, AtBegin, AtMark, AtDone, AtEnd, request_at}
use Rattle.bay_core.specs.Core.{Core, core_after}

abbrev pub is_running : Core → Bool
is_running c = is_none c.halt.stop

abbrev pub is_ready : List UnitPlan → Core → ℕ → Bool
is_ready P c u = nat_lt u (count_of P) && is_none (c.slots u).outcome && not (c.slots u).claimed
    && all_of (plan_of P u).after (λ w. c.recorded (entry.Complete w))

-- claimed and without outcome
abbrev pub is_open_unit : List UnitPlan → Core → ℕ → Bool
is_open_unit P c u = nat_lt u (count_of P) && (c.slots u).claimed && is_none (c.slots u).outcome

-- not stopped, the link up, no alive answer owed
abbrev pub is_clear : Core → Bool
is_clear c = is_running c && is_up c.link.phase && not c.link.owes

abbrev pub is_begin : Place → Bool
is_begin AtBegin = true
is_begin place = false

abbrev pub is_mark : ℕ → Place → Bool
is_mark s (AtMark c) = length c.done == s
is_mark s place = false

abbrev pub is_done : Place → Bool
is_done AtDone = true
is_done place = false

-- the lowest unit that is ready
abbrev pub may_claim : List UnitPlan → Core → ℕ → Bool
may_claim P c u = is_running c && is_ready P c u && each_below u (λ w. not (is_ready P c w))

abbrev pub may_begin : List UnitPlan → Core → ℕ → Bool
may_begin P c u =
    is_open_unit P c u && not (c.recorded (entry.Begun u)) && is_begin (c.slots u).talk.place && is_clear c

-- the unit's next request, which is not awaited yet
abbrev pub may_send : List UnitPlan → Core → ℕ → ℕ → Bool
may_send P c u place = is_open_unit P c u && is_some (request_at (plan_of P u) (c.slots u).talk.place)
    && place == (c.slots u).talk.number && not (c.slots u).talk.awaiting && is_clear c

abbrev pub has_message : List UnitPlan → Core → ℕ → Bool
has_message P c u = is_some (first_message (plan_of P u).address c.link.inbox)

abbrev pub fits_inbox : Heard → Bool → Bool
fits_inbox Kept has = has
fits_inbox Quiet has = not has
fits_inbox (Piece bytes) has = not has
fits_inbox Lost has = not has

abbrev pub may_collect : List UnitPlan → Core → ℕ → Heard → Bool
may_collect P c u heard =
    is_open_unit P c u && (c.slots u).talk.awaiting && is_clear c && fits_inbox heard (has_message P c u)

abbrev pub fits_link : Core → Tend → Bool
fits_link c (Dialed lost) = is_down c.link.phase
fits_link c (Asked lost) = is_dialed c.link.phase
fits_link c (Said lost) = is_up c.link.phase && c.link.owes
fits_link c (Polled Kept) = false
fits_link c (Polled Quiet) = is_asked c.link.phase
fits_link c (Polled (Piece bytes)) = is_asked c.link.phase
fits_link c (Polled Lost) = is_asked c.link.phase

abbrev pub may_tend : Core → Tend → Bool
may_tend c step = is_running c && fits_link c step

-- a mark asks for no link
abbrev pub may_mark : List UnitPlan → Core → ℕ → ℕ → Bool
may_mark P c u s = is_open_unit P c u && is_mark s (c.slots u).talk.place && is_running c

-- nor does Complete, and it may come in a run that is stopped, as long as no append has failed
abbrev pub may_finish : List UnitPlan → Core → ℕ → Bool
may_finish P c u = is_open_unit P c u && is_done (c.slots u).talk.place && not c.halt.failed

-- the core if the failed appends that stand directly before were not there
abbrev pub without_failures : Core → Core
without_failures c = record c { halt = c.before }

-- an append of this entry for the unit may have been tried
abbrev pub may_record : List UnitPlan → Core → ℕ → Entry → Bool
may_record P c u (entry.Begun w) = w == u && may_begin P (without_failures c) u
may_record P c u (entry.Marked w s) = w == u && may_mark P (without_failures c) u s
may_record P c u (entry.Complete w) = w == u && may_finish P (without_failures c) u

abbrev pub is_end : Place → Outcome → Bool
is_end (AtEnd said) outcome = same_outcome said outcome
is_end place outcome = false

abbrev pub is_stop : Option Outcome → Outcome → Bool
is_stop None outcome = false
is_stop (Some said) outcome = same_outcome said outcome

abbrev pub is_memory : Outcome → Bool
is_memory NoMemory = true
is_memory outcome = false

-- the first unit of `after` that is not complete, if it has an outcome
abbrev pub is_blocker : Core → List ℕ → ℕ → Bool
is_blocker c [] by = false
is_blocker c (w ∷ ws) by =
    if c.recorded (entry.Complete w) then is_blocker c ws by else w == by && is_some (c.slots w).outcome

abbrev pub is_blocked : List UnitPlan → Core → ℕ → Outcome → Bool
is_blocked P c u (Blocked by) = is_blocker c (plan_of P u).after by
is_blocked P c u outcome = false

abbrev pub may_end : List UnitPlan → Core → ℕ → Outcome → Bool
may_end P c u outcome = nat_lt u (count_of P) && is_none (c.slots u).outcome && (
    ((c.slots u).claimed && is_end (c.slots u).talk.place outcome)
    || (if (c.slots u).faulted then same_outcome DiskFault outcome else is_stop c.halt.stop outcome)
    || is_memory outcome
    || is_blocked P c u outcome)

-- the table of events
abbrev pub is_allowed : List UnitPlan → Core → Event → Bool
is_allowed P c (Claimed u) = may_claim P c u
is_allowed P c (Began u) = may_begin P c u
is_allowed P c (Sent u place lost) = may_send P c u place
is_allowed P c (Collected u heard) = may_collect P c u heard
is_allowed P c (Tended step) = may_tend c step
is_allowed P c (Marked u s) = may_mark P c u s
is_allowed P c (Completed u) = may_finish P c u
is_allowed P c (DiskFailed u entry) = may_record P c u entry
is_allowed P c (Ended u outcome) = may_end P c u outcome

abbrev pub is_legal : LinkRules → List UnitPlan → Core → List Event → Bool
is_legal rules P c [] = true
is_legal rules P c (e ∷ es) = is_allowed P c e && is_legal rules P (core_after rules P e c) es
