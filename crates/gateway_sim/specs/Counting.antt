-- Counts by code.
use Rattle.std.specs.Prelude.{ℕ, List, slice_index}

abbrev pub by_code : List ℕ → ℕ → ℕ
by_code counts = λ code. slice_index counts code
