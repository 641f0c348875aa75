-- Identifiers whose values fit one answer.
use Rattle.std.specs.Prelude.{ℕ, Bool, true, ◌&&◌, nat_le, List, [], ◌∷◌, length}

abbrev pub all_short : List (ℕ × List ℕ) → Bool
all_short [] = true
all_short (i ∷ is) = nat_le (length i.1) 4096 && all_short is
