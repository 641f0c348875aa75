-- What is known of the files of a vehicle and of its journal.
use Rattle.std.specs.Prelude.{◌≡◌, Bool, true, false}

-- held: this process has the lock on the journal. behind: a call of the link is missing in the file of calls. loose: some of
-- that file may be lost with the power.
pub record FilesState : Type 0 where
  pub held : Bool
  pub behind : Bool
  pub loose : Bool

-- the journal may be written: it is held, and no call is missing
pub record MayWrite (s : FilesState) : Type 0 where
  pub held : s.held ≡ true
  pub whole : s.behind ≡ false

-- the journal was synced: every call was on the disk before
pub record IsSynced (s : FilesState) : Type 0 where
  pub may : MayWrite s
  pub kept : s.loose ≡ false

-- the vehicle stands in its file as it is
pub record IsWhole (s : FilesState) : Type 0 where
  pub whole : s.behind ≡ false
  pub kept : s.loose ≡ false
