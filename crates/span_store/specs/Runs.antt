-- The maximal runs of a byte map.
use Rattle.std.specs.Prelude.{ℕ, ◌+◌, ◌≤◌, List, [], ◌∷◌, nat_eq, if◌then◌else◌}
use Rattle.std.specs.FinMap.{entries}
use Rattle.span_store.specs.ByteMap.{ByteMap, top}

-- a run, as address and size, before runs that stand above it: it is one with the first where that begins behind it
abbrev pub before_runs : ℕ × ℕ → List (ℕ × ℕ) → List (ℕ × ℕ)
before_runs r [] = r ∷ []
before_runs r (s ∷ ss) = if nat_eq s.0 (r.0 + r.1) then (r.0, r.1 + s.1) ∷ ss else r ∷ s ∷ ss

-- the runs of ascending addresses
abbrev pub runs_of : List (ℕ × ℕ) → List (ℕ × ℕ)
runs_of [] = []
runs_of (p ∷ ps) = before_runs (p.0, 1) (runs_of ps)

-- the maximal runs in ascending order
abbrev pub runs : ByteMap → List (ℕ × ℕ)
runs m = runs_of (entries m)

-- an address at least, and none at the top or past it
abbrev pub IsRun : ℕ × ℕ → Type 0
IsRun r = (1 ≤ r.1) × (r.0 + r.1 ≤ top)
