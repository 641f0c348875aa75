-- A bay: a run over a shop with its journal, and what the type keeps of it.
use Rattle.std.specs.Prelude.{ℕ, Bool}
use Rattle.bay_law.specs.Bay.{JournalState, IsBay}
use Rattle.flash_journal.specs.Kept.{journal_label, has_entry, is_live, IsKeptOn}
use Rattle.flash_journal.specs.declared.journal.Journal.{Journal}
use Rattle.flash_run.specs.Run.{RunState}
use Rattle.shop_model.specs.History.{History}

-- What contracts see of a bay: its run, the shop at the opening and now, and how many entries the next group of records may have
-- at most.
pub record BayState (S : Type 0) : Type 0 where
  pub run : RunState
  pub first : S
  pub shop : S
  pub slots : ℕ

-- what the laws see of a journal
abbrev pub state_of : Journal → JournalState
state_of j = record { label = journal_label j; has = has_entry j; live = is_live j }

-- a run with its journal, from the history at the opening to the present one
abbrev pub IsBayOf : Bool → Bool → RunState → History → History → Journal → Type 0
IsBayOf tells_disk tells_vehicle r first now j =
    IsBay tells_disk tells_vehicle r first now (state_of j) (IsKeptOn j)
