-- A journal that was opened.
use Rattle.std.specs.Prelude.{◌≡◌, ℕ, true, false, List, Result, Ok, Err}
use Rattle.disk_model.specs.Disk.{DiskState}
use Rattle.flash_plan.specs.declared.outcome.Entry.{Entry}
use Rattle.flash_plan.specs.declared.outcome.Entry.TheVariants.{Begun, Marked, Complete}
use Rattle.journal_model.specs.Records.{Label, records}
use Rattle.flash_journal.specs.declared.journal.Journal.{Journal}
use Rattle.flash_journal.specs.declared.looking.OpenFault.{OpenFault}
use Rattle.flash_journal.specs.declared.looking.OpenFault.TheVariants.{NotJournal, OtherPlan, DiskFault, NoMemory}
use Rattle.flash_journal.specs.Kept.{journal_label, has_entry, is_live, IsKeptOn}
use Rattle.flash_journal.specs.Look.{Opens, Refuses}

-- a live journal of this plan
pub record IsOf (P : Label) (j : Journal) : Type 0 where
  pub live : is_live j ≡ true
  pub label : journal_label j ≡ P

-- the journal has the entries that the old bytes record, and is kept on the disk
pub record IsOpened (P : Label) (old : List ℕ) (j : Journal) (disk : DiskState) : Type 0 where
  pub opens : Opens P old
  pub entries : (e : Entry) → has_entry j e ≡ records P old e
  pub kept : IsKeptOn j disk

-- what is answered where the disk is told
abbrev pub OpenAnswer : Label → List ℕ → Result Journal OpenFault → DiskState → Type 0
OpenAnswer P old (Ok j) disk = IsOpened P old j disk
OpenAnswer P old (Err fault) disk = Refuses P old fault

-- where the file was refused, or memory was wanting: nothing is written then
abbrev pub OnRefusal : Result Journal OpenFault → Type 0 → Type 0
OnRefusal (Ok j) X = Unit {0}
OnRefusal (Err NotJournal) X = X
OnRefusal (Err (OtherPlan said)) X = X
OnRefusal (Err DiskFault) X = Unit {0}
OnRefusal (Err NoMemory) X = X

-- a read gives these bytes
abbrev pub HasBytes : List ℕ → DiskState → Type 0
HasBytes bytes d = d.bytes ≡ bytes

-- no entry
pub record IsEmpty (j : Journal) : Type 0 where
  pub none : (e : Entry) → has_entry j e ≡ false

-- none is complete or marked that is not begun, over any disk
pub record IsOrdered (j : Journal) : Type 0 where
  pub begun : (u : ℕ) → has_entry j (Complete u) ≡ true → has_entry j (Begun u) ≡ true
  pub marked : (u s : ℕ) → has_entry j (Marked u s) ≡ true → has_entry j (Begun u) ≡ true
