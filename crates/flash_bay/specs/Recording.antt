-- What the calls of a bay that record promise.
use Rattle.std.specs.Prelude.{◌≡◌, ℕ, ◌+◌, ◌<◌, ◌≤◌, Bool, true, false, length, map, min, take, Result, Ok, Err}
use Rattle.bay_core.specs.declared.event.Event.{Event}
use Rattle.bay_core.specs.declared.event.Event.TheVariants.{Completed, DiskFailed}
use Rattle.flash_base.specs.Counts.{Rises}
use Rattle.flash_bay.specs.Calls.{Adds}
use Rattle.flash_bay.specs.State.{BayState}
use Rattle.flash_bay.specs.declared.answers.StepFault.{StepFault}
use Rattle.flash_bay.specs.declared.answers.StepFault.TheVariants.{Disk, NoMemory}
use Rattle.flash_journal.specs.declared.journal.DiskFault.{DiskFault}
use Rattle.flash_plan.specs.Plan.{count_of}
use Rattle.flash_plan.specs.declared.outcome.Entry.TheVariants.{Complete}
use Rattle.flash_run.specs.Group.{group_of, recorded_as, failed_as}
use Rattle.flash_run.specs.Need.{need_of}
use Rattle.flash_run.specs.Run.{RunState, with_event}
use Rattle.flash_run.specs.declared.need.Need.{Need}
use Rattle.flash_run.specs.declared.need.Need.TheVariants as need
use Rattle.journal_steps.specs.Later.{IsDiskLater}
use Rattle.shop_model.specs.History.{History}

-- ------ which units wait for a record
abbrev pub records_next : Need → Bool
records_next need.Begin = true
records_next need.Mark = true
records_next need.Complete = true
records_next n = false

-- some unit waits for a record
pub record HasRecordDue (r : RunState) : Type 0 where
  pub unit : ℕ
  pub within : unit < count_of r.plan
  pub due : records_next (need_of r unit) ≡ true

-- ------ a group of records
-- of the disk alone, in at most four calls
pub record CallsDisk {S : Type 0} (history : S → History) (old new : BayState S) : Type 0 where
  pub is_later : IsDiskLater (history old.shop) (history new.shop)
  pub few : (history new.shop).moment ≤ (history old.shop).moment + 4

-- the first of the group are recorded, at least one: as many as one run of slots takes, in four calls
pub record Records {S : Type 0} (history : S → History) (n : ℕ) (old new : BayState S) : Type 0 where
  pub count : n ≡ min (length (group_of old.run)) old.slots
  pub some : 1 ≤ n
  pub adds : Adds (map recorded_as (take n (group_of old.run))) old new
  pub disk : CallsDisk history old new
  pub calls : (history new.shop).moment ≡ (history old.shop).moment + 4

-- the append failed, and so of each entry of the group
pub record Fails {S : Type 0} (history : S → History) (old new : BayState S) : Type 0 where
  pub some : 1 ≤ length (group_of old.run)
  pub adds : Adds (map failed_as (group_of old.run)) old new
  pub disk : CallsDisk history old new
  pub fault : Rises (history old.shop).disk_faults (history new.shop).disk_faults

-- without memory nothing was called
abbrev pub Commits : {S : Type 0} → (S → History) → BayState S → Result ℕ StepFault → BayState S → Type 0
Commits history old (Ok n) new = Records history n old new
Commits history old (Err Disk) new = Fails history old new
Commits history old (Err NoMemory) new = new ≡ old

-- ------ that one unit is complete, in room that was taken before
pub record RecordsOne {S : Type 0} (history : S → History) (e : Event) (old new : BayState S) : Type 0 where
  pub run : new.run ≡ with_event e old.run
  pub first : new.first ≡ old.first
  pub disk : CallsDisk history old new

abbrev pub HasCompleted : {S : Type 0} → (S → History) → ℕ → BayState S → Result Unit DiskFault → BayState S
    → Type 0
HasCompleted history u old (Ok x) new = RecordsOne history (Completed u) old new
HasCompleted history u old (Err fault) new =
    RecordsOne history (DiskFailed u (Complete u)) old new
    × Rises (history old.shop).disk_faults (history new.shop).disk_faults
