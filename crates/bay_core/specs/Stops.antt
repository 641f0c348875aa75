-- What stops a run.
use Rattle.std.specs.Prelude.{◌≡◌, ◌+◌, ◌==◌, Bool, true, false, ◌||◌, List, [], ◌∷◌, MatchOption}
use Rattle.flash_plan.specs.declared.outcome.Entry.{Entry}
use Rattle.flash_plan.specs.declared.outcome.Outcome.{Outcome}
use Rattle.flash_plan.specs.declared.outcome.Outcome.TheVariants.{DiskFault, LinkLost, LinkRefused}
use Rattle.flash_plan.specs.declared.unit.LinkRules.{LinkRules}
use Rattle.flash_plan.specs.declared.unit.UnitPlan.{UnitPlan}
use Rattle.bay_core.specs.Core.{core_of, core_start, is_disk_failure}
use Rattle.bay_core.specs.declared.event.Event.{Event}

-- an append failed
abbrev pub has_failure : List Event → Bool
has_failure [] = false
has_failure (e ∷ es) = is_disk_failure e || has_failure es

-- a disk fault, where an append failed; a lost link, with one loss more than may be made anew; or a denied activation, with a
-- code that does not accept
abbrev pub IsStopCause : LinkRules → Bool → Outcome → Type 0
IsStopCause rules failed DiskFault = failed ≡ true
IsStopCause rules failed (LinkLost times) = times ≡ rules.relinks + 1
IsStopCause rules failed (LinkRefused code) = (code == 16) ≡ false
IsStopCause rules failed outcome = ⊥

-- whatever stopped a run has its cause in the events
abbrev pub StopLaw : Type 0
StopLaw = (rules : LinkRules) (P : List UnitPlan) (found : Entry → Bool) (events : List Event)
    → MatchOption (core_of rules P (core_start P found) events).halt.stop (Unit {0})
    (IsStopCause rules (has_failure events))
