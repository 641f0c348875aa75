-- Entries that are noted in the tables of a journal.
use Rattle.std.specs.Prelude.{◌≡◌, ◌⊎◌, ℕ, ◌+◌, ◌<◌, ◌≤◌, true, false, List, length, get_or, set}
use Rattle.flash_plan.specs.declared.outcome.Entry.{Entry}
use Rattle.journal_model.specs.Records.{names}
use Rattle.journal_steps.specs.Append.{with_entries}
use Rattle.journal_steps.specs.Tables.{place_of}
use Rattle.flash_journal.specs.declared.journal.Journal.{Journal}
use Rattle.flash_journal.specs.Kept.{journal_form, has_entry}

-- the entry may be noted in the slot: both are free
pub record CanNote (j : Journal) (slot : ℕ) (e : Entry) : Type 0 where
  pub below : slot < length j.gates.items
  pub closed : get_or j.gates.items slot false ≡ false
  pub named : names (journal_form j) e ≡ true
  pub fresh : has_entry j e ≡ false

-- all but the tables is as before
pub record IsSameButTables (old new : Journal) : Type 0 where
  pub digest : new.digest ≡ old.digest
  pub layout : new.layout ≡ old.layout
  pub live : new.live ≡ old.live

pub record IsNoted (old new : Journal) (slot : ℕ) (e : Entry) : Type 0 where
  pub same : IsSameButTables old new
  pub gates : new.gates.items ≡ set old.gates.items slot true
  pub found : new.found.items ≡ set old.found.items (place_of (journal_form old) e) true

-- several entries, in the slots from one on
pub record AreNoted (old new : Journal) (slot : ℕ) (es : List Entry) : Type 0 where
  pub same : IsSameButTables old new
  pub size : length new.gates.items ≡ length old.gates.items
  pub opened : (k : ℕ) → slot ≤ k → k < slot + length es → get_or new.gates.items k false ≡ true
  pub others : (k : ℕ) → (k < slot) ⊎ (slot + length es ≤ k)
      → get_or new.gates.items k false ≡ get_or old.gates.items k false
  pub entries : (x : Entry) → has_entry new x ≡ with_entries es (has_entry old) x

-- a run of closed slots for these entries
pub record IsRoom (j : Journal) (slot : ℕ) (es : List Entry) : Type 0 where
  pub within : slot + length es ≤ length j.gates.items
  pub closed : (k : ℕ) → k < length es → get_or j.gates.items (slot + k) false ≡ false
