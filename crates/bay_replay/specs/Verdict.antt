-- What a conversation ends with, and what stops a run.
use Rattle.std.specs.Prelude.{◌≢◌, ℕ, Option, Some, None}
use Rattle.flash_plan.specs.declared.outcome.Outcome.{Outcome}
use Rattle.flash_plan.specs.declared.outcome.Outcome.TheVariants.{Complete, Blocked}
use Rattle.run_model.specs.Script.{Place, AtEnd}
use Rattle.barrier_board.specs.Board.{NamesWithin}

-- An outcome other than Complete, which a unit has by its record alone, and other than Blocked, which it has by another unit.
abbrev pub IsVerdict : Outcome → Type 0
IsVerdict Complete = ⊥
IsVerdict (Blocked by) = ⊥
IsVerdict outcome = Unit {0}

-- a conversation that has ended has such an outcome
abbrev pub EndsRightly : Place → Type 0
EndsRightly (AtEnd outcome) = IsVerdict outcome
EndsRightly place = Unit {0}

-- a run that is stopped has such an outcome
abbrev pub StopsRightly : Option Outcome → Type 0
StopsRightly None = Unit {0}
StopsRightly (Some outcome) = IsVerdict outcome

-- an outcome that a board takes: not Complete, and blocked only by a unit of the plan
pub record IsOther (size : ℕ) (outcome : Outcome) : Type 0 where
  pub other : outcome ≢ Complete
  pub within : NamesWithin size outcome
