-- The lowest number of which something holds.
use Rattle.std.specs.Prelude.{◌≡◌, ℕ, ◌+◌, ◌<◌, ◌≤◌, Option, Some, None, IsSome}
use Rattle.std.specs.FinMap.{get}
use Rattle.span_store.specs.ByteMap.{ByteMap}

-- the lowest number of which P holds, if it holds of one
abbrev pub IsLowest : (ℕ → Type 0) → Option ℕ → Type 0
IsLowest P None = (a : ℕ) → P a → ⊥
IsLowest P (Some low) = P low × ((a : ℕ) → a < low → P a → ⊥)

-- an address of a range without a byte
abbrev pub IsHole : ByteMap → ℕ → ℕ → ℕ → Type 0
IsHole m from size a = (from ≤ a) × (a < from + size) × (get m a ≡ None)

-- an address at which both maps have a byte
abbrev pub IsShared : ByteMap → ByteMap → ℕ → Type 0
IsShared m n a = IsSome (get m a) × IsSome (get n a)
