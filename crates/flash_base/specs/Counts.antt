-- Counts that a caller reads before and after a call.
use Rattle.std.specs.Prelude.{◌+◌, ◌-◌, ◌≤◌, ◌^◌, min, ℕ}

-- a count rose: it is greater than before, or stands at its last value
abbrev pub Rises : ℕ → ℕ → Type 0
Rises old new = min (old + 1) (2 ^ 64 - 1) ≤ new

-- the last value of a count, at which it stays
abbrev pub LAST_COUNT : ℕ
LAST_COUNT = 2 ^ 64 - 1

-- a count that rose by one, or stands at its last value
abbrev pub one_more : ℕ → ℕ
one_more n = min (n + 1) LAST_COUNT
