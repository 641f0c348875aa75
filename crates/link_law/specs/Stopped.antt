-- What stopped a run, by its whole list of events.
use Rattle.std.specs.Prelude.{◌≡◌, Bool, true, nat_lt, List, [], ◌∷◌, ◌++◌, Option, Some, None, if◌then◌else◌}
use Rattle.bay_core.specs.Core.{core_of, core_start, is_disk_failure, refused_stop}
use Rattle.bay_core.specs.Legal.{is_legal}
use Rattle.bay_core.specs.declared.event.Event.{Event}
use Rattle.flash_plan.specs.declared.outcome.Entry.{Entry}
use Rattle.flash_plan.specs.declared.outcome.Outcome.{Outcome}
use Rattle.flash_plan.specs.declared.outcome.Outcome.TheVariants.{DiskFault, LinkLost}
use Rattle.flash_plan.specs.declared.unit.LinkRules.{LinkRules}
use Rattle.flash_plan.specs.declared.unit.UnitPlan.{UnitPlan}
use Rattle.link_law.specs.Happened.{count_after}
use Rattle.link_law.specs.Follows.{is_loss, phase_of}

-- more losses than the rules allow, or a denied activation
abbrev pub link_cause : LinkRules → List Event → Option Outcome
link_cause rules events =
    if nat_lt rules.relinks (count_after is_loss [] events)
    then Some (LinkLost (count_after is_loss [] events)) else refused_stop (phase_of events)

-- what the event behind others stops a run by: an append that failed, or the link
abbrev pub cause_at : LinkRules → List Event → Event → Option Outcome
cause_at rules before e = if is_disk_failure e then Some DiskFault else link_cause rules (before ++ (e ∷ []))

abbrev pub or_later : Option Outcome → Option Outcome → Option Outcome
or_later None later = later
or_later (Some outcome) later = Some outcome

-- the cause of the first event that has one
abbrev pub first_cause : LinkRules → List Event → List Event → Option Outcome
first_cause rules before [] = None
first_cause rules before (e ∷ es) =
    or_later (cause_at rules before e) (first_cause rules (before ++ (e ∷ [])) es)

-- a legal list of events is stopped by the first of its events that has a cause
abbrev pub StopFollows : Type 0
StopFollows = (rules : LinkRules) (P : List UnitPlan) (found : Entry → Bool) (events : List Event)
    → is_legal rules P (core_start P found) events ≡ true
    → (core_of rules P (core_start P found) events).halt.stop ≡ first_cause rules [] events
