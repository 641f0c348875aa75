-- Transfers as a running unit keeps them.
use Rattle.std.specs.Prelude.{ℕ, ◌+◌, ◌-◌, ◌≤◌, ◌<◌, ◌^◌, Bool, List, None, Some, IsTrue}
use Rattle.flash_base.specs.ByteMaps.{MemoryMap, has_each}
use Rattle.unit_model.specs.RegionTests.{LIMIT}
use Rattle.unit_model.specs.Unit.{ControlUnit, OpenTransfer, is_repeat, block_up, last_block, next_counter}
use Rattle.unit_model.specs.declared.unit.Transfer.{Transfer}

-- a range that a request can say
pub record IsLow (at size : ℕ) : Type 0 where
  pub at_most : at ≤ LIMIT
  pub size_most : size < 2 ^ 32

-- a block that the memory has
pub record IsBlock (at size : ℕ) (memory : MemoryMap) : Type 0 where
  pub few : size ≤ 65533
  pub limit : at + size ≤ LIMIT
  pub there : IsTrue (has_each at size memory)

abbrev pub transfer_of : Transfer → OpenTransfer
transfer_of t = record { up = t.up; at = t.at; rest = t.rest; counter = t.counter; last = t.last }

abbrev pub repeats : Transfer → ℕ → Bool
repeats t counter = is_repeat (transfer_of t) counter

abbrev pub size_up : ControlUnit → Transfer → ℕ
size_up u t = block_up u (transfer_of t)

abbrev pub block_again : ControlUnit → Transfer → List ℕ
block_again u t = last_block u (transfer_of t) t.last

-- before its first block
abbrev pub begun : Bool → ℕ → ℕ → Transfer
begun up at size = record { up = up; at = at; rest = size; counter = 1; last = None }

-- behind a block of so many bytes
abbrev pub gone_on : Transfer → ℕ → Transfer
gone_on t size = record {
  up = t.up;
  at = t.at + size;
  rest = t.rest - size;
  counter = next_counter t.counter;
  last = Some size;
}
