-- What a run over a shop says at its end: the clauses of the headline, each from what it keeps alone.
use Rattle.std.specs.Prelude.{◌≡◌, ◌≢◌, ◌⊎◌, ℕ, ◌<◌, Bool, true, false, List, Some, IsTrue, MatchOption}
use Rattle.barrier_board.specs.Board.{has_entry}
use Rattle.bay_core.specs.Joint.{IsDone}
use Rattle.disk_model.specs.Disk.{DiskState, IsCrashImage}
use Rattle.flash_base.specs.Counts.{Rises, LAST_COUNT}
use Rattle.flash_plan.specs.Plan.{plan_of, count_of}
use Rattle.flash_plan.specs.declared.outcome.Entry.TheVariants.{Complete}
use Rattle.flash_plan.specs.declared.outcome.Outcome.TheVariants as outcome
use Rattle.flash_plan.specs.declared.outcome.Outcome.{Outcome}
use Rattle.flash_run.specs.Run.{RunState, core_of_run}
use Rattle.journal_model.specs.Records.{records, label_of}
use Rattle.outcome_law.specs.Outcomes.{IsOutcomeCaused, AllMatch, LacksMemory}
use Rattle.outcome_law.specs.Rising.{RoseBy}
use Rattle.run_model.specs.Entries.{marks_of}
use Rattle.run_model.specs.Troubles.{IsVehicleCalm}
use Rattle.shop_model.specs.History.{History, disk_now, vehicle_now}
use Rattle.shop_model.specs.Through.{AreShown}
use Rattle.unit_model.specs.Vehicle.{heard_of, unit_at}
use Rattle.bay_law.specs.Sentence.{KeepsSound, Covers}

-- the outcome of a unit of the run
abbrev pub HasOutcome : RunState → ℕ → Outcome → Type 0
HasOutcome r n o = ((core_of_run r).slots n).outcome ≡ Some o

-- a unit that is complete is recorded so in each image; another is so in some image only where its append answered a fault
pub record AreRecorded (r : RunState) (disk : DiskState) : Type 0 where
  pub complete : (n : ℕ) → n < count_of r.plan → HasOutcome r n outcome.Complete → (image : List ℕ)
      → IsCrashImage disk image
      → records (label_of r.plan) image (Complete n) ≡ true
  pub other : (n : ℕ) → n < count_of r.plan → (image : List ℕ) → IsCrashImage disk image
      → records (label_of r.plan) image (Complete n) ≡ true
      → HasOutcome r n outcome.Complete ⊎ ((core_of_run r).doubted (Complete n) ≡ true)
  -- and so of every entry: each image has those recorded, and no others but those whose append failed
  pub covers : Covers r.plan (core_of_run r) disk

-- each outcome has its cause, by so many faults of the link
pub record AreCaused (r : RunState) (first now : History) : Type 0 where
  pub faults : ℕ
  pub rose : RoseBy faults first.link_faults now.link_faults
  pub each : (n : ℕ) (o : Outcome) → n < count_of r.plan → HasOutcome r n o
      → IsOutcomeCaused r.rules (plan_of r.plan n) (has_entry r.found) (core_of_run r) n
      (core_of_run r).halt.failed faults (vehicle_now first) (vehicle_now now) o

-- a unit that is complete, and has heard a request since the opening, holds each segment that was not found marked, checked, and
-- has passed
abbrev pub HoldImages : RunState → History → History → Type 0
HoldImages r first now = (n : ℕ) → n < count_of r.plan → HasOutcome r n outcome.Complete
    → heard_of (vehicle_now now) (plan_of r.plan n).address ≢ heard_of (vehicle_now first)
    (plan_of r.plan n).address
    → MatchOption (unit_at (vehicle_now now).units (plan_of r.plan n).address) ⊥
    (IsDone (plan_of r.plan n) (marks_of (has_entry r.found) n))

-- no append failed, no call of the link failed or was garbled, and the vehicle has not departed
pub record IsCalmRun (r : RunState) (first now : History) : Type 0 where
  pub disk : (core_of_run r).halt.failed ≡ false
  pub link : now.link_faults ≡ first.link_faults
  pub below : first.link_faults < LAST_COUNT
  pub vehicle : IsVehicleCalm (vehicle_now first) (vehicle_now now)

-- then, where every unit matches, each outcome is complete, but for want of memory
abbrev pub AreCompleted : RunState → History → History → Type 0
AreCompleted r first now = IsCalmRun r first now → AllMatch r.plan (has_entry r.found) (vehicle_now first)
    → (n : ℕ) (o : Outcome) → n < count_of r.plan → HasOutcome r n o → (o ≡ outcome.Complete)
    ⊎ LacksMemory r.plan (core_of_run r)

pub record Says (tells_disk tells_vehicle : Bool) (r : RunState) (first now : History) : Type 0 where
  pub sound : IsTrue tells_disk → IsTrue tells_vehicle → KeepsSound r.plan first now
  pub recorded : IsTrue tells_disk → AreRecorded r (disk_now now)
  -- also where no vehicle is told: a disk fault has its cause
  pub fault : (n : ℕ) → n < count_of r.plan → HasOutcome r n outcome.DiskFault
      → Rises first.disk_faults now.disk_faults
  pub failed : (core_of_run r).halt.failed ≡ true → Rises first.disk_faults now.disk_faults
  pub caused : IsTrue tells_vehicle → AreShown now first.moment now.moment → AreCaused r first now
  pub images : IsTrue tells_vehicle → AreShown now first.moment now.moment → HoldImages r first now
  pub completed : IsTrue tells_vehicle → AreShown now first.moment now.moment → AreCompleted r first now
