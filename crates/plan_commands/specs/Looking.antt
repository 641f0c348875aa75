-- What `status` answers: by the plan of the order file, and by what the bytes of the journal record.
use Rattle.std.specs.Prelude.{◌≡◌, ◌≢◌, ◌⊎◌, ℕ, ◌+◌, Bool, IsTrue, List, [], ◌++◌, length, map, slice_index, Result, Ok, Err}
use Rattle.std.specs.List.{range_with_len}
use Rattle.flash_base.specs.Counts.{Rises}
use Rattle.flash_journal.specs.Look.{Opens}
use Rattle.flash_journal.specs.declared.looking.OpenFault.{OpenFault}
use Rattle.flash_journal.specs.declared.looking.OpenFault.TheVariants as open_fault
use Rattle.flash_plan.specs.Canonical.{plan_digest}
use Rattle.flash_plan.specs.declared.outcome.Entry.{Entry}
use Rattle.flash_plan.specs.declared.unit.UnitPlan.{UnitPlan}
use Rattle.flash_shelf.specs.History.{ShelfHistory, SinkHistory}
use Rattle.flash_shelf.specs.Outside.{Came, ReadFailed, WriteFailed}
use Rattle.journal_model.specs.Records.{label_of, records}
use Rattle.journal_steps.specs.Later.{IsDiskLater, SameDisk}
use Rattle.journal_steps.specs.Read.{limit_of, IsFront}
use Rattle.journal_steps.specs.Tested.{Tested, tested, NotMade, NoJournal, OfOtherPlan, OfThisPlan}
use Rattle.plan_build.specs.Building.{built, built_by}
use Rattle.plan_build.specs.Fetched.{between, came}
use Rattle.plan_build.specs.Whole.{IfShelf}
use Rattle.plan_build.specs.declared.built.Built.{Built}
use Rattle.plan_build.specs.declared.fault.BuildFault.{BuildFault}
use Rattle.plan_build.specs.declared.fault.BuildFault.TheVariants as fault
use Rattle.run_report.specs.OneLine.{disk_fault_line, no_journal_line, other_plan_line}
use Rattle.run_report.specs.Recorded.{is_among, status_text}
use Rattle.shop_model.specs.History.{History, disk_now}
use Rattle.plan_commands.specs.Answering.{refused, status_of}
use Rattle.plan_commands.specs.Serving.{IsNotGiven, PrintsAnswer, Starves}
use Rattle.plan_commands.specs.declared.answering.Answer.{Answer}
use Rattle.plan_commands.specs.declared.status.Status.{Status}
use Rattle.plan_commands.specs.declared.status.Status.TheVariants.{Done, Usage, Input, Units, Shelf, Journal, Disk, Sink, NoMemory}

-- the digest that a journal's header says
abbrev pub said_in : List ℕ → List ℕ
said_in bytes = map (λ i. slice_index bytes (16 + i)) (range_with_len 0 32)

-- by what the tests of a file find
abbrev pub found : List UnitPlan → List ℕ → Tested → Answer
found P bytes NotMade = record { status = Done; text = status_text P (records (label_of P) bytes) }
found P bytes OfThisPlan = record { status = Done; text = status_text P (records (label_of P) bytes) }
found P bytes NoJournal = record { status = Journal; text = no_journal_line }
found P bytes OfOtherPlan =
    record { status = Journal; text = other_plan_line (said_in bytes) (plan_digest P) }

-- what the bytes of a journal file answer for a plan
abbrev pub recorded : List UnitPlan → List ℕ → Answer
recorded P bytes = found P bytes (tested (label_of P) bytes)

abbrev pub disk_failed : Answer
disk_failed = record { status = Disk; text = disk_fault_line }

-- what is answered to what a look gave
abbrev pub Shows : List UnitPlan → Result (List Entry) OpenFault → Answer → Type 0
Shows P (Ok es) a = a ≡ record { status = Done; text = status_text P (is_among es) }
Shows P (Err open_fault.NotJournal) a = a ≡ record { status = Journal; text = no_journal_line }
Shows P (Err (open_fault.OtherPlan said)) a = (length said ≡ 32)
    × (a ≡ record { status = Journal; text = other_plan_line said (plan_digest P) })
Shows P (Err open_fault.DiskFault) a = a ≡ disk_failed
Shows P (Err open_fault.NoMemory) a = ⊥

-- the answer is that of the bytes that were read; where the disk is told, these are the first of the file,
-- and the answer is that of the whole file
pub record IsOfRead (tells : Bool) (P : List UnitPlan) (image : List ℕ) (a : Answer) : Type 0 where
  pub bytes : List ℕ
  pub front : IsTrue tells → IsFront (limit_of (label_of P)) image bytes
  pub is : a ≡ recorded P bytes
  pub whole : IsTrue tells → a ≡ recorded P image

-- the disk failed, or the answer is that of the bytes that a read gave
abbrev pub IsLooked : Bool → History → History → List UnitPlan → Answer → Type 0
IsLooked tells old new P a = ((a ≡ disk_failed) × Rises old.disk_faults new.disk_faults)
    ⊎ IsOfRead tells P (disk_now old).bytes a

-- the answer to what the files gave
abbrev pub IsStatusAnswer : Bool → History → History → Result Built BuildFault → Answer → Type 0
IsStatusAnswer tells old new (Ok b) a = IsLooked tells old new b.plan a
IsStatusAnswer tells old new (Err e) a = (¬ (e ≡ fault.NoMemory)) × (a ≡ refused e)

-- `status` was served: what the shelf's reads gave decides whether the journal is looked at, and both decide
-- on text and status
pub record IsStatusServed (tells : Bool) (s0 s1 : ShelfHistory) (disk_tells : Bool) (h0 h1 : History)
    (sink_tells : Bool) (k0 k1 : SinkHistory) (order : List ℕ) (status : Status) : Type 0 where
  pub gave : Result Built BuildFault
  pub read : (gave ≡ Err fault.NoMemory) ⊎ built_by (came (between tells s0 s1)) order gave
  pub told : IsTrue tells → (gave ≡ Err fault.NoMemory) ⊎ ReadFailed s0 s1 ⊎ built s0.contents order gave
  pub outside : IfShelf gave (λ name why. Came tells s0 s1 name (Err why))
  pub printed : Starves k0 k1 status
      ⊎ ((a : Answer) × IsStatusAnswer disk_tells h0 h1 gave a × PrintsAnswer sink_tells k0 k1 a status)

-- a plan was built, bytes were read, and what they answer, with this status, was printed
pub record IsShownOfRead (tells : Bool) (s0 s1 : ShelfHistory) (disk_tells : Bool) (h0 : History)
    (sink_tells : Bool) (k0 k1 : SinkHistory) (order : List ℕ) (status : Status) : Type 0 where
  pub whole : Built
  pub by : built_by (came (between tells s0 s1)) order (Ok whole)
  pub bytes : List ℕ
  pub front : IsTrue disk_tells → IsFront (limit_of (label_of whole.plan)) (disk_now h0).bytes bytes
  pub is : (recorded whole.plan bytes).status ≡ status
  pub printed : PrintsAnswer sink_tells k0 k1 (recorded whole.plan bytes) status

-- the reads lead to a file that is refused, and its line was printed
abbrev pub IsOrderRefused : Bool → ShelfHistory → ShelfHistory → Bool → SinkHistory → SinkHistory → List ℕ
    → Status → Type 0
IsOrderRefused tells s0 s1 sink_tells k0 k1 order status =
    (e : BuildFault) × built_by (came (between tells s0 s1)) order (Err e) × (status_of e ≡ status)
    × PrintsAnswer sink_tells k0 k1 (refused e) status

-- each status has its cause: `Done` comes of bytes that are no journal yet or this plan's, `Journal` of others
abbrev pub HasLookCause : Bool → ShelfHistory → ShelfHistory → Bool → History → History
    → Bool → SinkHistory → SinkHistory → List ℕ → Status → Type 0
HasLookCause tells s0 s1 disk_tells h0 h1 sink_tells k0 k1 order Done =
    IsShownOfRead tells s0 s1 disk_tells h0 sink_tells k0 k1 order Done
HasLookCause tells s0 s1 disk_tells h0 h1 sink_tells k0 k1 order Usage = ⊥
HasLookCause tells s0 s1 disk_tells h0 h1 sink_tells k0 k1 order Input =
    IsOrderRefused tells s0 s1 sink_tells k0 k1 order Input
HasLookCause tells s0 s1 disk_tells h0 h1 sink_tells k0 k1 order Units = ⊥
HasLookCause tells s0 s1 disk_tells h0 h1 sink_tells k0 k1 order Shelf =
    IsNotGiven tells s0 s1 sink_tells k0 k1 Shelf
HasLookCause tells s0 s1 disk_tells h0 h1 sink_tells k0 k1 order Journal =
    IsShownOfRead tells s0 s1 disk_tells h0 sink_tells k0 k1 order Journal
    × (IsTrue disk_tells → (disk_now h0).bytes ≢ [])
HasLookCause tells s0 s1 disk_tells h0 h1 sink_tells k0 k1 order Disk = Rises h0.disk_faults h1.disk_faults
HasLookCause tells s0 s1 disk_tells h0 h1 sink_tells k0 k1 order Sink = WriteFailed k0 k1
HasLookCause tells s0 s1 disk_tells h0 h1 sink_tells k0 k1 order NoMemory = Unit {0}

-- at each moment disk and vehicle are as at the start, and no link call was made
pub record OnlyReads (h0 h1 : History) : Type 0 where
  pub same : SameDisk h0 h1
  pub disk : disk_now h1 ≡ disk_now h0
  pub later : IsDiskLater h0 h1

-- what a call promises that serves `status` of an order file, between two times of shelf, shop and sink
pub record ServesStatus (tells : Bool) (s0 s1 : ShelfHistory) (disk_tells : Bool) (h0 h1 : History)
    (sink_tells : Bool) (k0 k1 : SinkHistory) (order : List ℕ) (status : Status) : Type 0 where
  -- the journal is read and not written, and the vehicle is not called
  pub reads : OnlyReads h0 h1
  -- what the reads of the shelf and of the journal gave decides on what is printed, and on the status
  pub served : IsStatusServed tells s0 s1 disk_tells h0 h1 sink_tells k0 k1 order status
  -- where the files are told and no read failed, the files' own answer leads on
  pub told : IsTrue tells → ¬ ReadFailed s0 s1
      → (r : Result Built BuildFault) → built s0.contents order r → ¬ (r ≡ Err fault.NoMemory)
      → Starves k0 k1 status
      ⊎ ((a : Answer) × IsStatusAnswer disk_tells h0 h1 r a × PrintsAnswer sink_tells k0 k1 a status)
  -- each status has its cause
  pub cause : HasLookCause tells s0 s1 disk_tells h0 h1 sink_tells k0 k1 order status
  -- where nothing failed, an accepted order with a fresh journal or its own is shown, unless memory runs out
  pub complete : IsTrue tells → IsTrue disk_tells → IsTrue sink_tells
      → ¬ ReadFailed s0 s1 → ¬ Rises h0.disk_faults h1.disk_faults → ¬ WriteFailed k0 k1
      → (b : Built) → built s0.contents order (Ok b) → Opens (label_of b.plan) (disk_now h0).bytes
      → (status ≡ NoMemory) ⊎ (status ≡ Done)
      × (k1.written ≡ k0.written ++ status_text b.plan (records (label_of b.plan) (disk_now h0).bytes))
