-- What the tests of a file find, with the tables that were read.
use Rattle.std.specs.Prelude.{◌≡◌, ◌⊎◌, ℕ, true, false, ◌&&◌, ◌==◌, List, Option, Some, None, Bool, suc, if◌then◌else◌}
use Rattle.flash_plan.specs.declared.outcome.Entry.{Entry}
use Rattle.flash_plan.specs.declared.outcome.Entry.TheVariants.{Begun, Marked, Complete}
use Rattle.journal_model.specs.Records.{Label, Form, form_of, stands_at, is_fresh, is_headed, says_digest, is_standing, is_formed, is_distinct, is_journal}
use Rattle.journal_steps.specs.Read.{IsRead, IsReadUpTo, AreListed}
use Rattle.flash_journal.specs.declared.layout.Version.{Version}
use Rattle.flash_journal.specs.declared.tables.Tables.{Tables}
use Rattle.flash_journal.specs.declared.verdict.Reading.{Reading}
use Rattle.flash_journal.specs.declared.verdict.Verdict.{Verdict}
use Rattle.flash_journal.specs.declared.verdict.Verdict.TheVariants.{Fresh, NotJournal, OtherPlan, Journal}
use Rattle.flash_journal.specs.Layouts.{layout_form, version_seen}

-- the entry of a kind; a kind that is no entry's is read as 02
abbrev pub entry_like : ℕ → ℕ → ℕ → Entry
entry_like kind unit segment =
    if kind == 1 then Begun unit else (if kind == 3 then Marked unit segment else Complete unit)

-- what the tables hold of all slots
pub record HasSlots (F : Form) (bytes : List ℕ) (t : Tables) : Type 0 where
  pub read : IsRead F bytes t.gates.items t.found.items
  pub listed : AreListed F t.found.items t.entries.items

-- what they hold of the first k slots
pub record HasSlotsUpTo (F : Form) (bytes : List ℕ) (k : ℕ) (t : Tables) : Type 0 where
  pub read : IsReadUpTo F bytes k t.gates.items t.found.items
  pub listed : AreListed F t.found.items t.entries.items

-- slot k was read too, or is not as it should be
abbrev pub IsReadSlot : Form → List ℕ → ℕ → Tables → Bool → Type 0
IsReadSlot F bytes k t true = HasSlotsUpTo F bytes (suc k) t
IsReadSlot F bytes k t false = (is_formed F bytes && is_distinct F bytes) ≡ false

-- the open bodies are in the form and differ, and these are the tables; or not
abbrev pub AreSlots : Form → List ℕ → Option Tables → Type 0
AreSlots F bytes None = (is_formed F bytes && is_distinct F bytes) ≡ false
AreSlots F bytes (Some t) = (is_formed F bytes ≡ true) × (is_distinct F bytes ≡ true) × HasSlots F bytes t

-- the slots that count in the file
pub record IsReading (P : Label) (bytes : List ℕ) (r : Reading) : Type 0 where
  pub version : r.version ≡ version_seen bytes
  pub form : layout_form r.layout ≡ form_of P bytes
  pub slots : HasSlots (form_of P bytes) bytes r.tables

abbrev pub AreStanding : Label → List ℕ → Option Reading → Type 0
AreStanding P bytes None = is_standing P bytes ≡ false
AreStanding P bytes (Some r) = (is_standing P bytes ≡ true) × IsReading P bytes r

-- the tests in order: of the header, of the digest, of the slots
abbrev pub IsNotJournal : Label → List ℕ → Type 0
IsNotJournal P bytes = (is_fresh bytes ≡ false)
    × ((is_headed bytes ≡ false) ⊎ (says_digest P bytes 0 ≡ true) × (is_standing P bytes ≡ false))

abbrev pub IsOtherPlan : Label → List ℕ → List ℕ → Type 0
IsOtherPlan P bytes said = (is_fresh bytes ≡ false) × (is_headed bytes ≡ true)
    × (says_digest P bytes 0 ≡ false) × (stands_at bytes 16 32 said ≡ true)

abbrev pub IsVerdict : Label → List ℕ → Verdict → Type 0
IsVerdict P bytes Fresh = is_fresh bytes ≡ true
IsVerdict P bytes NotJournal = IsNotJournal P bytes
IsVerdict P bytes (OtherPlan said) = IsOtherPlan P bytes said
IsVerdict P bytes (Journal r) = (is_journal P bytes ≡ true) × IsReading P bytes r
