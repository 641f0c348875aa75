-- One slot more in the tables.
use Rattle.std.proofs.Common.{◌≡◌, ℕ, suc, ◌+◌, ◌<◌, true, false, Bool, List, [], ◌∷◌, ◌++◌, get_or, set, sym, refl, ap, subst, arith}
use Rattle.std.specs.Prelude.{replicate}
use Rattle.flash_plan.specs.declared.outcome.Entry.{Entry}
use Rattle.journal_model.specs.Records.{Form, slots_of, is_open, spells, names}
use Rattle.journal_steps.specs.Read.{IsReadUpTo, AreListed}
use Rattle.journal_steps.specs.Tables.{place_of}
use Rattle.journal_steps.proofs.Listing.{list_start, list_note}
use Rattle.journal_steps.proofs.Reading.{read_start, read_skip, read_note, read_all}
use Rattle.flash_journal.specs.Seen.{HasSlots, HasSlotsUpTo}
use Rattle.flash_journal.specs.declared.tables.Tables.{Tables}

pub slots_start : (F : Form) (bytes : List ℕ) (n : ℕ) (t : Tables) → n ≡ slots_of F → t.gates.items ≡ replicate n false → t.found.items ≡ replicate n false → t.entries.items ≡ [] → HasSlotsUpTo F bytes 0 t
slots_start F bytes n t is gates found none = record {
  read = read_start F bytes t.gates.items t.found.items (subst (λ (k : ℕ). t.gates.items ≡ replicate k false) is gates) (subst (λ (k : ℕ). t.found.items ≡ replicate k false) is found);
  listed = list_start F n t.found.items t.entries.items found none;
}

pub slot_skipped : (F : Form) (bytes : List ℕ) (k : ℕ) (t : Tables) → HasSlotsUpTo F bytes k t → is_open F bytes k ≡ false → HasSlotsUpTo F bytes (suc k) t
slot_skipped F bytes k t so_far closed = record {
  read = read_skip F bytes k t.gates.items t.found.items so_far.read closed;
  listed = so_far.listed;
}

pub slot_noted : (F : Form) (bytes : List ℕ) (k : ℕ) (t new : Tables) (e : Entry) (place : ℕ) → HasSlotsUpTo F bytes k t → k < slots_of F → is_open F bytes k ≡ true → spells F bytes k e ≡ true → names F e ≡ true
    → place ≡ place_of F e → place < slots_of F → get_or t.found.items place false ≡ false
    → new.gates.items ≡ set t.gates.items k true → new.found.items ≡ set t.found.items place true → new.entries.items ≡ t.entries.items ++ e ∷ []
    → HasSlotsUpTo F bytes (suc k) new
slot_noted F bytes k t new e place so_far lt opened spelt named place_is place_lt lacks gates found entries = record {
  read = subst (λ (gs : List Bool). IsReadUpTo F bytes (suc k) gs new.found.items) (sym gates)
      (subst (λ (fs : List Bool). IsReadUpTo F bytes (suc k) (set t.gates.items k true) fs) (sym found)
      (read_note F bytes k t.gates.items t.found.items e place so_far.read lt opened spelt named place_is place_lt lacks));
  listed = subst (λ (es : List Entry). AreListed F new.found.items es) (sym entries)
      (subst (λ (fs : List Bool). AreListed F fs (t.entries.items ++ e ∷ [])) (sym found)
      (list_note F t.found.items t.entries.items e place named so_far.listed place_is (omega (arith, place_lt, so_far.read.found_size)) lacks));
}

pub slots_read : (F : Form) (bytes : List ℕ) (k : ℕ) (t : Tables) → k ≡ slots_of F → HasSlotsUpTo F bytes k t → HasSlots F bytes t
slots_read F bytes k t is all = record {
  read = read_all F bytes t.gates.items t.found.items (subst (λ (n : ℕ). IsReadUpTo F bytes n t.gates.items t.found.items) is all.read);
  listed = all.listed;
}
