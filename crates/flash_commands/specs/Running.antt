-- A run of an order file: what is refused before it, how it ends, and what it promises of disk and vehicle.
use Rattle.std.specs.Prelude.{◌≡◌, ◌≢◌, ◌⊎◌, ℕ, ◌<◌, Bool, true, false, IsTrue, List, ◌++◌, Result, Ok, Err}
use Rattle.barrier_board.specs.Board.{has_entry}
use Rattle.bay_law.specs.Closed.{Says}
use Rattle.bay_law.specs.Sentence.{IsSoundAt, KeepsSound}
use Rattle.disk_model.specs.Disk.{DiskState, IsCrashImage}
use Rattle.flash_base.specs.Counts.{Rises, LAST_COUNT}
use Rattle.flash_base.specs.Lists.{all_of}
use Rattle.flash_bay.specs.Opened.{IsRefused}
use Rattle.flash_journal.specs.Look.{Opens}
use Rattle.flash_journal.specs.Opened.{HasBytes}
use Rattle.flash_journal.specs.declared.looking.OpenFault.{OpenFault}
use Rattle.flash_order.specs.declared.order.Order.{Order}
use Rattle.flash_plan.specs.Plan.{count_of, plan_of, IsInImage}
use Rattle.flash_plan.specs.declared.outcome.Entry.{Entry}
use Rattle.flash_plan.specs.declared.outcome.Entry.TheVariants as entry
use Rattle.flash_plan.specs.declared.outcome.Outcome.{Outcome}
use Rattle.flash_plan.specs.declared.unit.LinkRules.{LinkRules}
use Rattle.flash_plan.specs.declared.unit.UnitPlan.{UnitPlan}
use Rattle.flash_run.specs.Run.{RunState, IsKept}
use Rattle.flash_shelf.specs.History.{ShelfHistory, SinkHistory}
use Rattle.flash_shelf.specs.Outside.{Came, ReadFailed, WriteFailed}
use Rattle.journal_model.specs.Records.{label_of, records}
use Rattle.journal_steps.specs.Later.{HoldsOnDisk, IsDiskLater}
use Rattle.outcome_law.specs.Outcomes.{AllMatch}
use Rattle.plan_build.specs.Building.{built, built_by}
use Rattle.plan_build.specs.Fetched.{between, came}
use Rattle.plan_build.specs.Whole.{IfShelf}
use Rattle.plan_build.specs.declared.built.Built.{Built}
use Rattle.plan_build.specs.declared.fault.BuildFault.{BuildFault}
use Rattle.plan_build.specs.declared.fault.BuildFault.TheVariants as fault
use Rattle.plan_commands.specs.Answering.{refused, status_of}
use Rattle.plan_commands.specs.Looking.{IsOrderRefused}
use Rattle.plan_commands.specs.Serving.{IsNotGiven, PrintsAnswer}
use Rattle.plan_commands.specs.declared.status.Status.{Status}
use Rattle.plan_commands.specs.declared.status.Status.TheVariants.{Done, Usage, Input, Units, Shelf, Journal, Disk, Sink, NoMemory}
use Rattle.run_model.specs.Sound.{HasProgrammed}
use Rattle.run_model.specs.Troubles.{IsVehicleCalm}
use Rattle.run_report.specs.Report.{is_complete, report_text}
use Rattle.shop_model.specs.History.{History, disk_now, vehicle_now}
use Rattle.shop_model.specs.Through.{AreShown}
use Rattle.unit_model.specs.Vehicle.{Vehicle, memory_of}
use Rattle.flash_commands.specs.Outcomes.{all_complete, AreOutcomes}
use Rattle.flash_commands.specs.Printing.{PrintsFilesLine, PrintsJournalLine, PrintsReport}

-- the tester's address and how often a lost link is made anew, as the order says
abbrev pub rules_of : Order → LinkRules
rules_of o = record { tester = o.tester; relinks = o.relinks }

-- the reads of a shelf between these two times give this for an order file
abbrev pub ReadsGive : Bool → ShelfHistory → ShelfHistory → List ℕ → Result Built BuildFault → Type 0
ReadsGive tells s0 s1 order r = built_by (came (between tells s0 s1)) order r

-- ------ the run itself
-- A run of this plan by these rules, from what its journal had at the start. Each unit has its outcome, and
-- of disk and vehicle everything is said that a run says: at each moment records and vehicle fit, whatever a
-- crash leaves; each outcome has its cause; and a run without troubles completes each unit that matches.
pub record IsRun (disk_tells vehicle_tells : Bool) (h0 h1 : History) (P : List UnitPlan) (rules : LinkRules)
    (outcomes : List Outcome) : Type 0 where
  pub run : RunState
  pub of_plan : run.plan ≡ P
  pub by_rules : run.rules ≡ rules
  pub opens : IsTrue disk_tells → Opens (label_of P) (disk_now h0).bytes
  pub found : IsTrue disk_tells → (e : Entry)
      → has_entry run.found e ≡ records (label_of P) (disk_now h0).bytes e
  pub kept : IsKept run
  pub are : AreOutcomes run outcomes
  pub says : Says disk_tells vehicle_tells run h0 h1

-- a run of what was built, and its report
pub record IsRunReported (disk_tells vehicle_tells : Bool) (h0 h1 : History)
    (sink_tells : Bool) (k0 k1 : SinkHistory) (b : Built) (status : Status) : Type 0 where
  pub outcomes : List Outcome
  pub made : IsRun disk_tells vehicle_tells h0 h1 b.plan (rules_of b.order) outcomes
  pub reported : PrintsReport sink_tells k0 k1 b.plan outcomes status

-- The journal could not be opened, and the line says why. Nothing was written to a file that is not a journal
-- of the plan, and no call of the link was made.
pub record IsNotOpened (disk_tells : Bool) (h0 h1 : History) (sink_tells : Bool) (k0 k1 : SinkHistory)
    (P : List UnitPlan) (status : Status) : Type 0 where
  pub why : OpenFault
  pub left : IsRefused disk_tells (λ (h : History). h) P h0 h1 why
  pub printed : PrintsJournalLine sink_tells k0 k1 P why status

-- by what the files gave: a run or a journal that could not be opened, or else no call of the shop
abbrev pub Ends : Bool → Bool → History → History → Bool → SinkHistory → SinkHistory
    → Result Built BuildFault → Status → Type 0
Ends disk_tells vehicle_tells h0 h1 sink_tells k0 k1 (Ok b) status =
    IsRunReported disk_tells vehicle_tells h0 h1 sink_tells k0 k1 b status
    ⊎ IsNotOpened disk_tells h0 h1 sink_tells k0 k1 b.plan status
Ends disk_tells vehicle_tells h0 h1 sink_tells k0 k1 (Err e) status =
    (h1 ≡ h0) × PrintsFilesLine sink_tells k0 k1 e status

-- an order was run: what the reads of the shelf gave, of which files, and how it ended
pub record IsOrderRun (tells : Bool) (s0 s1 : ShelfHistory) (disk_tells vehicle_tells : Bool)
    (h0 h1 : History) (sink_tells : Bool) (k0 k1 : SinkHistory) (order : List ℕ) (status : Status)
    : Type 0 where
  pub gave : Result Built BuildFault
  pub read : (gave ≡ Err fault.NoMemory) ⊎ ReadsGive tells s0 s1 order gave
  pub told : IsTrue tells → (gave ≡ Err fault.NoMemory) ⊎ ReadFailed s0 s1 ⊎ built s0.contents order gave
  pub outside : IfShelf gave (λ name why. Came tells s0 s1 name (Err why))
  pub ends : Ends disk_tells vehicle_tells h0 h1 sink_tells k0 k1 gave status

-- ------ the causes of its status
-- a run was made of a plan that the reads gave, which is the files' own where they are told
pub record HasRun (tells : Bool) (s0 s1 : ShelfHistory) (disk_tells vehicle_tells : Bool) (h0 h1 : History)
    (sink_tells : Bool) (k0 k1 : SinkHistory) (order : List ℕ) (status : Status) : Type 0 where
  pub whole : Built
  pub by : ReadsGive tells s0 s1 order (Ok whole)
  pub theirs : IsTrue tells → built s0.contents order (Ok whole)
  pub ran : IsRunReported disk_tells vehicle_tells h0 h1 sink_tells k0 k1 whole status

-- a run was made, and every unit is complete, or some is not
abbrev pub HasRunWhere : Bool → Bool → ShelfHistory → ShelfHistory → Bool → Bool → History → History
    → Bool → SinkHistory → SinkHistory → List ℕ → Status → Type 0
HasRunWhere complete tells s0 s1 disk_tells vehicle_tells h0 h1 sink_tells k0 k1 order status =
    (r : HasRun tells s0 s1 disk_tells vehicle_tells h0 h1 sink_tells k0 k1 order status)
    × (all_of r.ran.outcomes is_complete ≡ complete)

-- the reads gave a plan, and the file of its journal is no journal of it
abbrev pub IsJournalRefused : Bool → ShelfHistory → ShelfHistory → Bool → History → History
    → Bool → SinkHistory → SinkHistory → List ℕ → Status → Type 0
IsJournalRefused tells s0 s1 disk_tells h0 h1 sink_tells k0 k1 order status =
    (b : Built) × ReadsGive tells s0 s1 order (Ok b)
    × IsNotOpened disk_tells h0 h1 sink_tells k0 k1 b.plan status
    × (IsTrue disk_tells → ¬ Opens (label_of b.plan) (disk_now h0).bytes)

-- each status has its cause
abbrev pub HasRunCause : Bool → ShelfHistory → ShelfHistory → Bool → Bool → History → History
    → Bool → SinkHistory → SinkHistory → List ℕ → Status → Type 0
HasRunCause tells s0 s1 disk_tells vehicle_tells h0 h1 sink_tells k0 k1 order Done =
    HasRunWhere true tells s0 s1 disk_tells vehicle_tells h0 h1 sink_tells k0 k1 order Done
HasRunCause tells s0 s1 disk_tells vehicle_tells h0 h1 sink_tells k0 k1 order Usage = ⊥
HasRunCause tells s0 s1 disk_tells vehicle_tells h0 h1 sink_tells k0 k1 order Input =
    IsOrderRefused tells s0 s1 sink_tells k0 k1 order Input
HasRunCause tells s0 s1 disk_tells vehicle_tells h0 h1 sink_tells k0 k1 order Units =
    HasRunWhere false tells s0 s1 disk_tells vehicle_tells h0 h1 sink_tells k0 k1 order Units
HasRunCause tells s0 s1 disk_tells vehicle_tells h0 h1 sink_tells k0 k1 order Shelf =
    IsNotGiven tells s0 s1 sink_tells k0 k1 Shelf
HasRunCause tells s0 s1 disk_tells vehicle_tells h0 h1 sink_tells k0 k1 order Journal =
    IsJournalRefused tells s0 s1 disk_tells h0 h1 sink_tells k0 k1 order Journal
HasRunCause tells s0 s1 disk_tells vehicle_tells h0 h1 sink_tells k0 k1 order Disk =
    Rises h0.disk_faults h1.disk_faults
HasRunCause tells s0 s1 disk_tells vehicle_tells h0 h1 sink_tells k0 k1 order Sink =
    WriteFailed k0 k1 × HasRun tells s0 s1 disk_tells vehicle_tells h0 h1 sink_tells k0 k1 order Sink
HasRunCause tells s0 s1 disk_tells vehicle_tells h0 h1 sink_tells k0 k1 order NoMemory = Unit {0}

-- where the files are told, a refusal of them is their own, unless a read failed
abbrev pub HasToldCause : ShelfHistory → ShelfHistory → Bool → SinkHistory → SinkHistory → List ℕ → Status
    → Type 0
HasToldCause s0 s1 sink_tells k0 k1 order status =
    (status ≡ Input) ⊎ (status ≡ Shelf)
    → ReadFailed s0 s1
    ⊎ ((e : BuildFault) × built s0.contents order (Err e) × (status_of e ≡ status)
    × PrintsAnswer sink_tells k0 k1 (refused e) status)

-- the statuses of what is refused before a run, but for the disk's
abbrev pub IsBefore : Status → Type 0
IsBefore Usage = Unit {0}
IsBefore Input = Unit {0}
IsBefore Shelf = Unit {0}
IsBefore Journal = Unit {0}
IsBefore Done = ⊥
IsBefore Units = ⊥
IsBefore Disk = ⊥
IsBefore Sink = ⊥
IsBefore NoMemory = ⊥

-- the statuses that only a run has
abbrev pub IsAfter : Status → Type 0
IsAfter Done = Unit {0}
IsAfter Units = Unit {0}
IsAfter Sink = Unit {0}
IsAfter Usage = ⊥
IsAfter Input = ⊥
IsAfter Shelf = ⊥
IsAfter Journal = ⊥
IsAfter Disk = ⊥
IsAfter NoMemory = ⊥

-- ------ disk and vehicle
-- at each moment a read gives the bytes of the start; the vehicle is as it was, and the link was not called
pub record IsUntouched (disk_tells : Bool) (h0 h1 : History) : Type 0 where
  pub same : IsTrue disk_tells → HoldsOnDisk h0 h1 (HasBytes (disk_now h0).bytes)
  pub later : IsDiskLater h0 h1

-- whatever a crash leaves of the disk, each unit of the plan is recorded complete in it
abbrev pub AllRecorded : List UnitPlan → DiskState → Type 0
AllRecorded P disk = (n : ℕ) → n < count_of P → (image : List ℕ) → IsCrashImage disk image
    → records (label_of P) image (entry.Complete n) ≡ true

-- each unit has passed its validation, and its memory is that of v0, overwritten by the unit's image
abbrev pub AreProgrammedOver : List UnitPlan → Vehicle → Vehicle → Type 0
AreProgrammedOver P v0 v = (n : ℕ) → n < count_of P → HasProgrammed (plan_of P n) v
    × ((a : ℕ) → ¬ IsInImage (plan_of P n).segments a
    → memory_of v (plan_of P n).address a ≡ memory_of v0 (plan_of P n).address a)

-- no call of shelf, disk, link or sink failed, no receive was garbled, and the vehicle departed from nothing
pub record IsCalm (s0 s1 : ShelfHistory) (h0 h1 : History) (k0 k1 : SinkHistory) : Type 0 where
  pub shelf : ¬ ReadFailed s0 s1
  pub disk : ¬ Rises h0.disk_faults h1.disk_faults
  pub link : h1.link_faults ≡ h0.link_faults
  pub below : h0.link_faults < LAST_COUNT
  pub vehicle : IsVehicleCalm (vehicle_now h0) (vehicle_now h1)
  pub sink : ¬ WriteFailed k0 k1

-- ------ what a run of an order file promises, between two times of the shelf, of the shop and of the sink
pub record RunsOrder (tells : Bool) (s0 s1 : ShelfHistory) (disk_tells vehicle_tells : Bool) (h0 h1 : History)
    (sink_tells : Bool) (k0 k1 : SinkHistory) (order : List ℕ) (status : Status) : Type 0 where
  -- what the files gave, and what became of it: a run, a journal that could not be opened, or nothing called
  pub ends : IsOrderRun tells s0 s1 disk_tells vehicle_tells h0 h1 sink_tells k0 k1 order status
  -- each status has its cause
  pub cause : HasRunCause tells s0 s1 disk_tells vehicle_tells h0 h1 sink_tells k0 k1 order status
  -- where the files are told, a refusal is their own, unless a read failed
  pub told : IsTrue tells → HasToldCause s0 s1 sink_tells k0 k1 order status
  -- what told files refuse is refused, unless a read failed or memory ran out
  pub refuses : IsTrue tells → (e : BuildFault) → ¬ (e ≡ fault.NoMemory) → built s0.contents order (Err e)
      → ReadFailed s0 s1 ⊎ (status ≡ status_of e) ⊎ (status ≡ NoMemory)
  -- a told file that is no journal of the plan is refused, unless a call failed before or memory ran out
  pub refuses_journal : IsTrue tells → IsTrue disk_tells → (b : Built) → built s0.contents order (Ok b)
      → ¬ Opens (label_of b.plan) (disk_now h0).bytes
      → ReadFailed s0 s1 ⊎ Rises h0.disk_faults h1.disk_faults ⊎ (status ≡ Journal) ⊎ (status ≡ NoMemory)
  -- where a file is refused the shop was not called
  pub not_called : (status ≡ Input) ⊎ (status ≡ Shelf) → h1 ≡ h0
  -- what is refused before a run leaves disk and vehicle as they were
  pub unchanged : IsBefore status → IsUntouched disk_tells h0 h1
  -- at every moment of the call, whatever a crash leaves of the disk, its records fit the vehicle then
  pub sound : IsTrue tells → IsTrue disk_tells → IsTrue vehicle_tells
      → (b : Built) → built s0.contents order (Ok b) → KeepsSound b.plan h0 h1
  -- a run was made where a call of the link was, and at each status that only a run has
  pub ran : IsAfter status ⊎ (h1.link_calls ≢ h0.link_calls)
      → HasRun tells s0 s1 disk_tells vehicle_tells h0 h1 sink_tells k0 k1 order status
  -- at `Done` each unit is recorded complete in whatever a crash leaves, and the report was printed
  pub done : IsTrue tells → status ≡ Done → (b : Built) → built s0.contents order (Ok b)
      → (IsTrue disk_tells → AllRecorded b.plan (disk_now h1))
      × (IsTrue sink_tells → k1.written ≡ k0.written ++ report_text b.plan (all_complete b.plan))
  -- and each unit holds its image and is otherwise as it was
  pub final : IsTrue tells → IsTrue disk_tells → IsTrue vehicle_tells → status ≡ Done
      → AreShown h1 h0.moment h1.moment → (b : Built) → built s0.contents order (Ok b)
      → (v0 : Vehicle) → IsSoundAt b.plan v0 (disk_now h0) (vehicle_now h0)
      → AreProgrammedOver b.plan v0 (vehicle_now h1)
  -- where nothing failed, a plan whose units all match, with a fresh journal or its own, ends well, unless
  -- memory runs out
  pub complete : IsTrue tells → IsTrue disk_tells → IsTrue vehicle_tells
      → IsCalm s0 s1 h0 h1 k0 k1 → AreShown h1 h0.moment h1.moment
      → (b : Built) → built s0.contents order (Ok b) → Opens (label_of b.plan) (disk_now h0).bytes
      → AllMatch b.plan (records (label_of b.plan) (disk_now h0).bytes) (vehicle_now h0)
      → (status ≡ Done) ⊎ (status ≡ NoMemory)
