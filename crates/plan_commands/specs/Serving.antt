-- How a command ends: what its files gave, what was printed, and the status.
use Rattle.std.specs.Prelude.{◌≡◌, ◌⊎◌, ℕ, Bool, IsTrue, List, ◌++◌, codes, Option, Some, None, Result, Ok, Err}
use Rattle.flash_base.specs.Counts.{Rises}
use Rattle.flash_shelf.specs.History.{ShelfHistory, SinkHistory}
use Rattle.flash_shelf.specs.Outside.{AddsPart, Came, CameFrom, ReadFailed, WriteFailed}
use Rattle.flash_shelf.specs.declared.shelf.ShelfFault.{ShelfFault}
use Rattle.flash_shelf.specs.declared.shelf.ShelfFault.TheVariants as why_not
use Rattle.plan_build.specs.Building.{built, built_by}
use Rattle.plan_build.specs.Fetched.{between, came, period}
use Rattle.plan_build.specs.Whole.{IfShelf}
use Rattle.plan_build.specs.declared.built.Built.{Built}
use Rattle.plan_build.specs.declared.fault.BuildFault.{BuildFault}
use Rattle.plan_build.specs.declared.fault.BuildFault.TheVariants as fault
use Rattle.plan_commands.specs.Answering.{answered, refused, shown_for}
use Rattle.plan_commands.specs.Words.{command_of, order_of}
use Rattle.plan_commands.specs.declared.answering.Answer.{Answer}
use Rattle.plan_commands.specs.declared.status.Status.{Status}
use Rattle.plan_commands.specs.declared.status.Status.TheVariants.{Done, Usage, Input, Units, Shelf, Journal, Disk, Sink, NoMemory}
use Rattle.plan_commands.specs.declared.words.Command.{Command}

-- the status where the text could not be written: a refusal keeps its own
abbrev pub unwritten : Status → Status
unwritten Done = Sink
unwritten Usage = Usage
unwritten Input = Input
unwritten Units = Units
unwritten Shelf = Shelf
unwritten Journal = Journal
unwritten Disk = Disk
unwritten Sink = Sink
unwritten NoMemory = NoMemory

-- the answer's text was put at the end, and its status is the command's;
-- or the writing failed after a part of the text
abbrev pub IsPrinted : Bool → List ℕ → List ℕ → ℕ → ℕ → Answer → Status → Type 0
IsPrinted tells before after old new a status =
    ((status ≡ a.status) × (IsTrue tells → after ≡ before ++ a.text))
    ⊎ ((status ≡ unwritten a.status) × Rises old new × (IsTrue tells → AddsPart before after a.text))

-- there was no memory, and nothing was printed
abbrev pub IsStarved : List ℕ → List ℕ → Status → Type 0
IsStarved before after status = (status ≡ NoMemory) × (after ≡ before)

-- the line of words that are not in the form
abbrev pub usage : Answer
usage = record { status = Usage; text = codes "usage\n" }

-- a command was served: what the shelf's reads gave, which is the files' own answer where they are told and
-- no fault came, decides on text and status
pub record IsServed (tells : Bool) (files : List (List ℕ × List ℕ)) (old new : ℕ) (sink_tells : Bool)
    (before after : List ℕ) (sink_old sink_new : ℕ) (c : Command) (status : Status) : Type 0 where
  pub gave : Result Built BuildFault
  pub read : (gave ≡ Err fault.NoMemory) ⊎ built_by (came (period tells files old new)) (order_of c) gave
  pub told : IsTrue tells → (gave ≡ Err fault.NoMemory) ⊎ Rises old new ⊎ built files (order_of c) gave
  pub outside : IfShelf gave (λ name why. CameFrom tells files name old new (Err why))
  pub printed : IsStarved before after status ⊎ (¬ (gave ≡ Err fault.NoMemory))
      × IsPrinted sink_tells before after sink_old sink_new (answered c gave) status

-- the statuses of a command that touches neither disk nor vehicle
abbrev pub IsPlainStatus : Status → Type 0
IsPlainStatus Done = Unit {0}
IsPlainStatus Usage = Unit {0}
IsPlainStatus Input = Unit {0}
IsPlainStatus Units = ⊥
IsPlainStatus Shelf = Unit {0}
IsPlainStatus Journal = ⊥
IsPlainStatus Disk = ⊥
IsPlainStatus Sink = Unit {0}
IsPlainStatus NoMemory = Unit {0}

-- ------ the same between two times of the shelf and of the sink
abbrev pub PrintsAnswer : Bool → SinkHistory → SinkHistory → Answer → Status → Type 0
PrintsAnswer tells old new a status = IsPrinted tells old.written new.written old.faults new.faults a status

abbrev pub Starves : SinkHistory → SinkHistory → Status → Type 0
Starves old new status = IsStarved old.written new.written status

abbrev pub Serves : Bool → ShelfHistory → ShelfHistory → Bool → SinkHistory → SinkHistory → Command → Status
    → Type 0
Serves tells s0 s1 sink_tells k0 k1 c status =
    IsServed tells s0.contents s0.faults s1.faults
    sink_tells k0.written k1.written k0.faults k1.faults c status

-- ------ why a command ended as it did
-- the reads lead to a file that is refused, or the order has no such task, and that line was printed
abbrev pub IsRefused : Bool → ShelfHistory → ShelfHistory → Bool → SinkHistory → SinkHistory → Command
    → Status → Type 0
IsRefused tells s0 s1 sink_tells k0 k1 c status =
    (r : Result Built BuildFault) × built_by (came (between tells s0 s1)) (order_of c) r
    × ((answered c r).status ≡ Input) × PrintsAnswer sink_tells k0 k1 (answered c r) status

-- the shelf did not give a file, which the printed line names
abbrev pub IsNotGiven : Bool → ShelfHistory → ShelfHistory → Bool → SinkHistory → SinkHistory → Status
    → Type 0
IsNotGiven tells s0 s1 sink_tells k0 k1 status =
    (name : List ℕ) × (why : ShelfFault) × (¬ (why ≡ why_not.NoMemory)) × Came tells s0 s1 name (Err why)
    × PrintsAnswer sink_tells k0 k1 (refused (fault.Shelf name why)) status

-- the reads give a plan, of which the task is, and the whole text was printed
abbrev pub IsShown : Bool → ShelfHistory → ShelfHistory → Bool → SinkHistory → SinkHistory → Command → Type 0
IsShown tells s0 s1 sink_tells k0 k1 c =
    (b : Built) × built_by (came (between tells s0 s1)) (order_of c) (Ok b)
    × ((shown_for c b).status ≡ Done) × (IsTrue sink_tells → k1.written ≡ k0.written ++ (shown_for c b).text)

-- each status of a call that serves these words by `check` and `image` has its cause
abbrev pub HasCause : Bool → ShelfHistory → ShelfHistory → Bool → SinkHistory → SinkHistory → Option Command
    → Status → Type 0
HasCause tells s0 s1 sink_tells k0 k1 said Done =
    (c : Command) → said ≡ Some c → IsShown tells s0 s1 sink_tells k0 k1 c
HasCause tells s0 s1 sink_tells k0 k1 said Usage = said ≡ None
HasCause tells s0 s1 sink_tells k0 k1 said Input =
    (c : Command) → said ≡ Some c → IsRefused tells s0 s1 sink_tells k0 k1 c Input
HasCause tells s0 s1 sink_tells k0 k1 said Units = ⊥
HasCause tells s0 s1 sink_tells k0 k1 said Shelf =
    (c : Command) → said ≡ Some c → IsNotGiven tells s0 s1 sink_tells k0 k1 Shelf
HasCause tells s0 s1 sink_tells k0 k1 said Journal = ⊥
HasCause tells s0 s1 sink_tells k0 k1 said Disk = ⊥
HasCause tells s0 s1 sink_tells k0 k1 said Sink = WriteFailed k0 k1
HasCause tells s0 s1 sink_tells k0 k1 said NoMemory = Unit {0}

-- what a call promises that serves words by `check` and `image`, between two times of shelf and sink
pub record ServesWords (tells : Bool) (s0 s1 : ShelfHistory) (sink_tells : Bool) (k0 k1 : SinkHistory)
    (words : List (List ℕ)) (status : Status) : Type 0 where
  -- words that are no such command are `Usage`, and their line is printed
  pub not_in_form : command_of words ≡ None → (status ≡ Usage) × PrintsAnswer sink_tells k0 k1 usage status
  -- what the reads gave decides on what is printed, and on the status
  pub served : (c : Command) → command_of words ≡ Some c → Serves tells s0 s1 sink_tells k0 k1 c status
  -- where the files are told and no read failed, it is what the files give, and nothing else
  pub told : IsTrue tells → ¬ ReadFailed s0 s1
      → (c : Command) (r : Result Built BuildFault) → command_of words ≡ Some c
      → built s0.contents (order_of c) r → ¬ (r ≡ Err fault.NoMemory)
      → Starves k0 k1 status ⊎ PrintsAnswer sink_tells k0 k1 (answered c r) status
  -- each status has its cause
  pub cause : HasCause tells s0 s1 sink_tells k0 k1 (command_of words) status
  -- where no read and no write failed, an accepted order that has the task is shown, unless memory runs out
  pub complete : IsTrue tells → IsTrue sink_tells → ¬ ReadFailed s0 s1 → ¬ WriteFailed k0 k1
      → (c : Command) (b : Built) → command_of words ≡ Some c → built s0.contents (order_of c) (Ok b)
      → (shown_for c b).status ≡ Done
      → (status ≡ NoMemory) ⊎ (status ≡ Done) × (k1.written ≡ k0.written ++ (shown_for c b).text)
