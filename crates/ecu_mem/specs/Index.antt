-- The entries that were read so far, and the table of their IDs.
use Rattle.std.specs.Prelude.{◌≡◌, ℕ, List, Ok, Err, ⊤}
use Rattle.indexmap.specs.IndexMap.{get_by_text}
use Rattle.ecu_mem.specs.declared.document.Document.{Document}
use Rattle.ecu_mem.specs.declared.entry.Entry.{Entry}
use Rattle.ecu_mem.specs.Refusals.{Reading}
use Rattle.ecu_mem.specs.Catalogue.{target_of, blocks_after, flashes_after}

abbrev pub entries_in : Document → List Entry
entries_in d = d.entries.items

-- the table has each ID with its target, and the numbers are right
pub record IsIndexed (d : Document) : Type 0 where
  pub targets : (id : List ℕ) → get_by_text d.targets id ≡ target_of (entries_in d) id
  pub blocks : d.blocks ≡ blocks_after 0 (entries_in d)
  pub flashes : d.flashes ≡ flashes_after 0 (entries_in d)

-- the entries after a step, or its refusal
abbrev pub after : Reading ⊤ → List Entry → Reading (List Entry)
after (Ok x) es = Ok es
after (Err r) es = Err r
