-- The parts of a journal that is to be written.
use Rattle.std.specs.Prelude.{◌≡◌, ℕ, ◌++◌, false, List, length, replicate}
use Rattle.journal_model.specs.Records.{Label, slots_of, total, new_form, behind}
use Rattle.journal_steps.specs.File.{new_bytes}
use Rattle.journal_steps.specs.Move.{IsSecond}
use Rattle.flash_journal.specs.declared.parts.Parts.{Parts}
use Rattle.flash_journal.specs.declared.tables.Tables.{Tables}
use Rattle.flash_journal.specs.Layouts.{layout_form}

-- of a new journal: closed slots, and no entry
pub record AreNew (P : Label) (p : Parts) : Type 0 where
  pub form : layout_form p.layout ≡ new_form P 0
  pub gates : p.tables.gates.items ≡ replicate (slots_of (new_form P 0)) false
  pub found : p.tables.found.items ≡ replicate (slots_of (new_form P 0)) false
  pub file : p.file.items ≡ new_bytes P
  pub digest : length P.digest ≡ 32

-- of the journal behind a version 1 file: its tables, and closed slots behind them
pub record AreMoved (P : Label) (old : List ℕ) (t : Tables) (p : Parts) : Type 0 where
  pub form : layout_form p.layout ≡ new_form P (behind P)
  pub gates : p.tables.gates.items ≡ t.gates.items ++ replicate (total P.segments) false
  pub found : p.tables.found.items ≡ t.found.items ++ replicate (total P.segments) false
  pub file : IsSecond P old p.file.items
