-- The outcomes of a run's units, and the status that they lead to.
use Rattle.std.specs.Prelude.{◌≡◌, ℕ, ◌<◌, Bool, true, false, ◌||◌, List, [], ◌∷◌, length, map, Option, Some, None, if◌then◌else◌}
use Rattle.std.specs.List.{slice_get}
use Rattle.barrier_board.specs.declared.post.Post.{Post}
use Rattle.flash_base.specs.Lists.{all_of}
use Rattle.flash_plan.specs.Plan.{count_of}
use Rattle.flash_plan.specs.declared.outcome.Outcome.{Outcome}
use Rattle.flash_plan.specs.declared.outcome.Outcome.TheVariants as outcome
use Rattle.flash_plan.specs.declared.unit.UnitPlan.{UnitPlan}
use Rattle.flash_run.specs.Run.{RunState, core_of_run}
use Rattle.plan_commands.specs.declared.status.Status.{Status}
use Rattle.plan_commands.specs.declared.status.Status.TheVariants.{Done, Usage, Input, Units, Shelf, Journal, Disk, Sink, NoMemory}
use Rattle.run_report.specs.Report.{is_complete}

-- the outcome on a board; each unit of a run that is over has one
abbrev pub given : Option Outcome → Outcome
given None = outcome.NoMemory
given (Some o) = o

abbrev pub on_board : List Post → List Outcome
on_board posts = map (λ (p : Post). given p.outcome) posts

-- each unit of the run has its outcome, and these are they, in the order of the plan
pub record AreOutcomes (r : RunState) (outcomes : List Outcome) : Type 0 where
  pub size : length outcomes ≡ count_of r.plan
  pub each : (n : ℕ) → n < count_of r.plan → slice_get outcomes n ≡ ((core_of_run r).slots n).outcome

abbrev pub lacks_memory : Outcome → Bool
lacks_memory outcome.NoMemory = true
lacks_memory o = false

abbrev pub is_disk_fault : Outcome → Bool
is_disk_fault outcome.DiskFault = true
is_disk_fault o = false

-- some of these outcomes is so
abbrev pub some_is : (Outcome → Bool) → List Outcome → Bool
some_is p [] = false
some_is p (o ∷ os) = p o || some_is p os

-- The status of a run with these outcomes, before anything is printed: no memory for some unit; else a disk
-- that failed; else every unit complete, or some that is not.
abbrev pub status_by : List Outcome → Status
status_by os = if some_is lacks_memory os then NoMemory
    else if some_is is_disk_fault os then Disk
    else if all_of os is_complete then Done
    else Units

-- the status where a report could not be written whole
abbrev pub cut_off : Status → Status
cut_off Done = Sink
cut_off Units = Sink
cut_off Usage = Usage
cut_off Input = Input
cut_off Shelf = Shelf
cut_off Journal = Journal
cut_off Disk = Disk
cut_off Sink = Sink
cut_off NoMemory = NoMemory

-- every unit of a plan complete
abbrev pub all_complete : List UnitPlan → List Outcome
all_complete P = map (λ (u : UnitPlan). outcome.Complete) P
