-- A journal in memory, and the disk that it is kept on.
use Rattle.std.specs.Prelude.{◌≡◌, ℕ, ◌<◌, ◌≤◌, Bool, true, false, List, length, drop, get_or, replicate}
use Rattle.disk_model.specs.Disk.{DiskState, IsCrashImage, IsSettled}
use Rattle.shop_model.specs.History.{History}
use Rattle.flash_base.specs.Lists.{Each}
use Rattle.flash_plan.specs.declared.outcome.Entry.{Entry}
use Rattle.journal_model.specs.Records.{Label, Form, new_form, form_of, slots_of, names, is_open}
use Rattle.flash_plan.specs.Outcomes.{with_entry}
use Rattle.journal_steps.specs.Append.{Records, IsPrepared, with_entries}
use Rattle.journal_steps.specs.Later.{MadeCalls, append_calls}
use Rattle.journal_steps.specs.Read.{AreOnce}
use Rattle.journal_steps.specs.Tables.{is_found, open_run, closed_run}
use Rattle.flash_journal.specs.Bodies.{bodies_of}
use Rattle.flash_journal.specs.declared.journal.Journal.{Journal}

-- the plan's digest, and of each unit the number of its segments
abbrev pub journal_label : Journal → Label
journal_label j = record { digest = j.digest; segments = j.layout.segments.items }

-- its slots are of version 2
abbrev pub journal_form : Journal → Form
journal_form j = new_form (journal_label j) j.layout.at

-- the entry is one of the journal's
abbrev pub has_entry : Journal → Entry → Bool
has_entry j e = is_found (journal_form j) j.found.items e

-- no append has failed
abbrev pub is_live : Journal → Bool
is_live j = j.live

-- the journal lacks the entry, of a unit and a segment of its plan, and has what stands before it
pub record MayAppend (j : Journal) (e : Entry) : Type 0 where
  pub named : names (journal_form j) e ≡ true
  pub fresh : has_entry j e ≡ false
  pub prepared : IsPrepared (has_entry j) e

-- 1 to 64 of them, each for itself, and none twice
pub record MayAppendAll (j : Journal) (es : List Entry) : Type 0 where
  pub some : 1 ≤ length es
  pub few : length es ≤ 64
  pub each : Each (MayAppend j) es
  pub once : AreOnce es

-- the disk is settled, and each image of it is a journal with these entries, in slots as the journal has them
pub record IsKeptOn (j : Journal) (disk : DiskState) : Type 0 where
  pub settled : IsSettled disk
  pub records : Records (journal_label j) (has_entry j) disk.bytes
  pub each : (image : List ℕ) → IsCrashImage disk image → Records (journal_label j) (has_entry j) image
  pub form : form_of (journal_label j) disk.bytes ≡ journal_form j
  pub gates : (k : ℕ) → k < slots_of (journal_form j)
      → is_open (journal_form j) disk.bytes k ≡ get_or j.gates.items k false

-- the same journal with one entry more
pub record HasOneMore (old new : Journal) (e : Entry) : Type 0 where
  pub label : journal_label new ≡ journal_label old
  pub live : is_live new ≡ true
  pub entries : (x : Entry) → has_entry new x ≡ with_entry e (has_entry old) x

-- with more entries
pub record HasMore (old new : Journal) (es : List Entry) : Type 0 where
  pub label : journal_label new ≡ journal_label old
  pub live : is_live new ≡ true
  pub entries : (x : Entry) → has_entry new x ≡ with_entries es (has_entry old) x

-- the same journal, closed
pub record IsClosed (old new : Journal) : Type 0 where
  pub label : journal_label new ≡ journal_label old
  pub live : is_live new ≡ false
  pub entries : (x : Entry) → has_entry new x ≡ has_entry old x

-- the lowest slot whose gate is closed, and how many are closed from there on
abbrev pub first_closed : Journal → ℕ
first_closed j = open_run j.gates.items

abbrev pub room_of : Journal → ℕ
room_of j = closed_run (drop (first_closed j) j.gates.items)

-- the four calls of an append, from the lowest slot on whose gate is closed
abbrev pub AppendsInOrder : Journal → List Entry → History → History → Type 0
AppendsInOrder j es old new = MadeCalls old new
    (append_calls (journal_form j) (first_closed j) (bodies_of es) (replicate (length es) 165))
