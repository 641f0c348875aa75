-- How a fresh file is made.
use Rattle.std.specs.Prelude.{◌≤◌, ℕ, List, length}
use Rattle.disk_model.specs.Disk.{DiskState, IsSettled}
use Rattle.journal_steps.specs.Make.{CanFill}
use Rattle.flash_journal.specs.declared.making.Way.{Way}
use Rattle.flash_journal.specs.declared.making.Way.TheVariants.{First, FromOne, FromEight}

-- the bytes allow this way
abbrev pub IsWay : List ℕ → Way → Type 0
IsWay bytes First = length bytes ≤ 1
IsWay bytes FromOne = CanFill bytes 1
IsWay bytes FromEight = CanFill bytes 8

-- a settled file of no byte or one
pub record IsShort (disk : DiskState) : Type 0 where
  pub settled : IsSettled disk
  pub size : length disk.bytes ≤ 1
