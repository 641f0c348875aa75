-- What the opening of a bay promises.
use Rattle.std.specs.Prelude.{◌≡◌, Bool, List, IsTrue}
use Rattle.barrier_board.specs.Board.{has_entry as is_found}
use Rattle.bay_law.specs.Sentence.{KeepsSound}
use Rattle.flash_bay.specs.State.{BayState}
use Rattle.flash_journal.specs.Look.{Opens, Refuses, SaysOther, HasCause}
use Rattle.flash_journal.specs.Opened.{HasBytes}
use Rattle.flash_journal.specs.declared.looking.OpenFault.{OpenFault}
use Rattle.flash_journal.specs.declared.looking.OpenFault.TheVariants.{NotJournal, OtherPlan, DiskFault, NoMemory}
use Rattle.flash_plan.specs.Canonical.{plan_digest}
use Rattle.flash_plan.specs.declared.outcome.Entry.{Entry}
use Rattle.flash_plan.specs.declared.unit.LinkRules.{LinkRules}
use Rattle.flash_plan.specs.declared.unit.UnitPlan.{UnitPlan}
use Rattle.flash_run.specs.Run.{run_start}
use Rattle.journal_model.specs.Records.{records, label_of}
use Rattle.journal_steps.specs.Later.{IsDiskLater, HoldsOnDisk}
use Rattle.shop_model.specs.History.{History, disk_now}

-- A run before any event over the shop as it was handed in. What it found is what the journal has: where the disk is told, what a
-- read gave at the opening.
pub record IsOpened {S : Type 0} (tells_disk : Bool) (history : S → History) (P : List UnitPlan)
    (rules : LinkRules) (shop : S) (b : BayState S) : Type 0 where
  pub first : b.first ≡ shop
  pub run : b.run ≡ run_start P rules b.run.found
  pub opens : IsTrue tells_disk → Opens (label_of P) (disk_now (history shop)).bytes
  pub found : IsTrue tells_disk → (e : Entry)
      → is_found b.run.found e ≡ records (label_of P) (disk_now (history shop)).bytes e
  pub is_later : IsDiskLater (history shop) (history b.shop)

-- X, where the file is not a journal of this plan
abbrev pub OnFile : OpenFault → Type 0 → Type 0
OnFile NotJournal X = X
OnFile (OtherPlan said) X = X
OnFile DiskFault X = Unit {0}
OnFile NoMemory X = Unit {0}

-- Nothing is written to a file that is refused, and whatever the disk's calls have left, records and vehicle still fit.
pub record IsRefused {S : Type 0} (tells_disk : Bool) (history : S → History) (P : List UnitPlan)
    (old new : S) (fault : OpenFault) : Type 0 where
  pub tells : IsTrue tells_disk → Refuses (label_of P) (disk_now (history old)).bytes fault
  pub other : SaysOther (plan_digest P) fault
  pub cause : HasCause (history old) (history new) fault
  pub untouched : IsTrue tells_disk
      → OnFile fault (HoldsOnDisk (history old) (history new) (HasBytes (disk_now (history old)).bytes))
  pub sound : IsTrue tells_disk → KeepsSound P (history old) (history new)
  pub is_later : IsDiskLater (history old) (history new)
