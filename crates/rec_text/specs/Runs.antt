-- Bytes that are still to be put into a map.
use Rattle.std.specs.Prelude.{◌≡◌, ℕ, ◌+◌, ◌^◌, ◌≤◌, ◌<◌, length, None}
use Rattle.std.specs.FinMap.{get}
use Rattle.span_store.specs.ByteMap.{ByteMap, over}
use Rattle.rec_text.specs.declared.run.Run.{Run}

-- the map with them
abbrev pub map_of_run : Run → ByteMap
map_of_run r = over r.spans r.start r.held

-- they come where no byte stands
pub record IsRun (r : Run) : Type 0 where
  pub within : r.start + length r.held ≤ r.limit
  pub top : r.limit ≤ 2 ^ 32
  pub free : (a : ℕ) → r.start ≤ a → a < r.limit → get r.spans a ≡ None
