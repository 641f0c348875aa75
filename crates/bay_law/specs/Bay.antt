-- What a run over a shop and its journal keeps: of the disk, of the vehicle, and of each moment since the opening.
use Rattle.std.specs.Prelude.{◌≡◌, ℕ, ◌≤◌, Bool, true, false, not, List, length, IsTrue}
use Rattle.barrier_board.specs.Board.{has_entry as is_found}
use Rattle.bay_core.specs.Core.{Core}
use Rattle.bay_core.specs.declared.event.Event.{Event}
use Rattle.bay_core.specs.declared.event.Event.TheVariants.{Claimed, Began, Sent, Collected, Tended, Marked, Completed, DiskFailed, Ended}
use Rattle.bay_core.specs.declared.event.Heard.{Heard}
use Rattle.bay_core.specs.declared.event.Heard.TheVariants.{Kept, Quiet, Piece, Lost}
use Rattle.bay_core.specs.declared.event.Tend.{Tend}
use Rattle.bay_core.specs.declared.event.Tend.TheVariants.{Dialed, Asked, Said, Polled}
use Rattle.disk_model.specs.Disk.{DiskState, IsCrashImage}
use Rattle.flash_base.specs.Counts.{Rises}
use Rattle.flash_base.specs.Lists.{Each}
use Rattle.flash_plan.specs.declared.outcome.Entry.{Entry}
use Rattle.flash_plan.specs.declared.outcome.Entry.TheVariants as entry
use Rattle.flash_plan.specs.declared.unit.UnitPlan.{UnitPlan}
use Rattle.flash_run.specs.Run.{RunState, core_of_run}
use Rattle.journal_model.specs.Records.{Label, label_of}
use Rattle.journal_steps.specs.Append.{Records, with_entries}
use Rattle.run_model.specs.Link.{is_live as lives}
use Rattle.shop_model.specs.History.{History, disk_now}
use Rattle.shop_model.specs.Through.{IsLater, AreShown}
use Rattle.bay_law.specs.Driven.{IsTold}
use Rattle.bay_law.specs.Sentence.{KeepsSound, Covers}

-- ------ the journal
-- what is seen of a journal: what it is of, its entries, and whether no append has failed
pub record JournalState : Type 0 where
  pub label : Label
  pub has : Entry → Bool
  pub live : Bool

-- the bytes, and each image of the disk, are a journal with these entries
pub record IsReadOn (j : JournalState) (disk : DiskState) : Type 0 where
  pub records : Records j.label j.has disk.bytes
  pub each : (image : List ℕ) → IsCrashImage disk image → Records j.label j.has image

-- the same journal with more entries
pub record HasMore (old new : JournalState) (es : List Entry) : Type 0 where
  pub label : new.label ≡ old.label
  pub live : new.live ≡ true
  pub entries : (x : Entry) → new.has x ≡ with_entries es old.has x

-- the same journal, closed
pub record IsClosed (old new : JournalState) : Type 0 where
  pub label : new.label ≡ old.label
  pub live : new.live ≡ false
  pub entries : (x : Entry) → new.has x ≡ old.has x

-- It is the plan's, has just the recorded entries, and is live while no append has failed. Where the disk is told, it is kept on
-- it (Kept) while it is live, and each image has these records, but for the entries of appends that failed.
pub record IsJournalOf (tells_disk : Bool) (P : List UnitPlan) (c : Core) (j : JournalState)
    (Kept : DiskState → Type 0) (disk : DiskState) : Type 0 where
  pub label : j.label ≡ label_of P
  pub entries : (e : Entry) → j.has e ≡ c.recorded e
  pub live : j.live ≡ not c.halt.failed
  pub kept : IsTrue tells_disk → j.live ≡ true → Kept disk
  pub covers : IsTrue tells_disk → Covers P c disk

-- ------ the events, as they can be written down
abbrev pub IsSmall : Heard → Type 0
IsSmall Kept = Unit {0}
IsSmall Quiet = Unit {0}
IsSmall (Piece bytes) = (1 ≤ length bytes) × (length bytes ≤ 4096)
IsSmall Lost = Unit {0}

abbrev pub IsSmallTend : Tend → Type 0
IsSmallTend (Dialed lost) = Unit {0}
IsSmallTend (Asked lost) = Unit {0}
IsSmallTend (Said lost) = Unit {0}
IsSmallTend (Polled heard) = IsSmall heard

-- a receive has brought 1 to 4,096 bytes
abbrev pub IsSmallEvent : Event → Type 0
IsSmallEvent (Claimed u) = Unit {0}
IsSmallEvent (Began u) = Unit {0}
IsSmallEvent (Sent u place lost) = Unit {0}
IsSmallEvent (Collected u heard) = IsSmall heard
IsSmallEvent (Tended step) = IsSmallTend step
IsSmallEvent (Marked u s) = Unit {0}
IsSmallEvent (Completed u) = Unit {0}
IsSmallEvent (DiskFailed u e) = Unit {0}
IsSmallEvent (Ended u outcome) = Unit {0}

-- none was found complete or marked that was not found begun
pub record AreOrdered (found : List Entry) : Type 0 where
  pub complete : (u : ℕ) → is_found found (entry.Complete u) ≡ true → is_found found (entry.Begun u) ≡ true
  pub marked : (u s : ℕ) → is_found found (entry.Marked u s) ≡ true → is_found found (entry.Begun u) ≡ true

-- ------ what is kept beside the run
pub record IsBay (tells_disk tells_vehicle : Bool) (r : RunState) (first now : History) (j : JournalState)
    (Kept : DiskState → Type 0) : Type 0 where
  -- time went on since the opening
  pub is_later : IsLater first now
  -- what the link's phase says of the shop's connection
  pub linked : lives (core_of_run r).link.phase ≡ true → IsTrue now.linked
  -- an append has failed only where the disk has
  pub failed : (core_of_run r).halt.failed ≡ true → Rises first.disk_faults now.disk_faults
  pub small : Each IsSmallEvent r.events
  pub ordered : AreOrdered r.found
  pub journal : IsJournalOf tells_disk r.plan (core_of_run r) j Kept (disk_now now)
  -- as long as each receive was shown
  pub told : IsTrue tells_vehicle → AreShown now first.moment now.moment → IsTold r first now
  -- and at each moment since the opening, records and vehicle fit
  pub sentence : IsTrue tells_disk → IsTrue tells_vehicle → KeepsSound r.plan first now
