-- Counts that rise and never fall: one that has come to its last value stays there.
use Rattle.std.specs.Prelude.{ℕ, ◌+◌, ◌≤◌, min}
use Rattle.flash_base.specs.Counts.{LAST_COUNT}
use Rattle.unit_model.specs.Unit.{Counts}

-- the count rose by so much at least
abbrev pub RoseBy : ℕ → ℕ → ℕ → Type 0
RoseBy n old new = min (old + n) LAST_COUNT ≤ new

abbrev pub Rose : ℕ → ℕ → Type 0
Rose old new = RoseBy 1 old new

-- it did not fall
abbrev pub Grows : ℕ → ℕ → Type 0
Grows old new = RoseBy 0 old new

pub record CountsGrow (old new : Counts) : Type 0 where
  pub refused : (code : ℕ) → Grows (old.refused code) (new.refused code)
  pub odd : Grows old.odd new.odd
  pub failed : Grows old.failed new.failed
  pub muted : Grows old.muted new.muted
  pub late : Grows old.late new.late
  pub stalled : Grows old.stalled new.stalled
  pub busy : Grows old.busy new.busy
  pub nacked : (code : ℕ) → Grows (old.nacked code) (new.nacked code)
