-- Regions as pairs of an address and a length, and whether they lie apart.
use Rattle.std.specs.Prelude.{ℕ, ◌+◌, ◌^◌, Bool, true, ◌&&◌, ◌||◌, nat_le, List, [], ◌∷◌}
use Rattle.unit_model.specs.declared.spec.RegionSpec.{RegionSpec}

-- addresses are below
abbrev pub LIMIT : ℕ
LIMIT = 2 ^ 40

abbrev pub is_apart : ℕ × ℕ → ℕ × ℕ → Bool
is_apart r s = nat_le (r.0 + r.1) s.0 || nat_le (s.0 + s.1) r.0

abbrev pub apart_from : ℕ × ℕ → List (ℕ × ℕ) → Bool
apart_from r [] = true
apart_from r (s ∷ ss) = is_apart r s && apart_from r ss

-- each has a byte at least and ends at most at the limit, and no two meet
abbrev pub all_apart : List (ℕ × ℕ) → Bool
all_apart [] = true
all_apart (r ∷ rs) = (nat_le 1 r.1 && nat_le (r.0 + r.1) LIMIT) && (apart_from r rs && all_apart rs)

abbrev pub spec_extents : List RegionSpec → List (ℕ × ℕ)
spec_extents [] = []
spec_extents (r ∷ rs) = (r.at, r.size) ∷ spec_extents rs
