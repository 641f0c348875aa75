-- A unit that is changed in its place.
use Rattle.std.specs.Prelude.{ℕ, List, set}
use Rattle.std.specs.Borrow.{Lends, MutBor, Fml}
use Rattle.bay_replay.specs.declared.units.Unit.{Unit as Kept}
use Rattle.bay_replay.specs.contracts.units.Unit.{the_row as unit_row}
use Rattle.bay_replay.specs.contracts.units.Units.{the_row}

-- the units end with what is left of the one with that number in its place
abbrev pub LendsUnit : MutBor (List Kept) → ℕ → MutBor Kept → Fml
LendsUnit units n unit = Lends the_row unit_row units unit (set units.now n)
