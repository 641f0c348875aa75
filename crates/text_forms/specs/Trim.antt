-- Texts without the blanks, tabs and line ends at their ends.
use Rattle.std.specs.Prelude.{ℕ, Bool, ◌||◌, ◌==◌, List, [], ◌∷◌, ◌++◌, if◌then◌else◌}
use Rattle.std.proofs.Common.{reverse}

-- a blank, a tab, LF or CR
abbrev pub is_blank : ℕ → Bool
is_blank c = c == 32 || c == 9 || c == 10 || c == 13

abbrev pub without_front : List ℕ → List ℕ
without_front [] = []
without_front (c ∷ cs) = if is_blank c then without_front cs else c ∷ cs

abbrev pub without_end : List ℕ → List ℕ
without_end bs = reverse (without_front (reverse bs))

abbrev pub cut : List ℕ → List ℕ
cut bs = without_end (without_front bs)
