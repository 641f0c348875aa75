-- Filters as ranges that share no address.
use Rattle.std.specs.Prelude.{◌≡◌, ℕ, ◌+◌, ◌-◌, ◌≤◌, ◌&&◌, nat_le, Bool, List, [], ◌∷◌, ◌++◌}
use Rattle.flash_base.specs.Lists.{Each}
use Rattle.span_store.specs.ByteMap.{top}
use Rattle.session_image.specs.Content.{is_in_one}

-- They ascend, the first at a number or above it. Each has an address, and ends at the top at most.
abbrev pub Apart : ℕ → List (ℕ × ℕ) → Type 0
Apart low [] = Unit {0}
Apart low (r ∷ rs) = (low ≤ r.0) × (1 ≤ r.1) × (r.0 + r.1 ≤ top) × Apart (r.0 + r.1) rs

-- ranges apart that have the addresses of others
pub record AreFor (said ranges : List (ℕ × ℕ)) : Type 0 where
  pub ascend : Apart 0 ranges
  pub same : (a : ℕ) → is_in_one ranges a ≡ is_in_one said a

-- a range ends at an address or before it
abbrev pub ends_by : ℕ → ℕ × ℕ → Bool
ends_by at r = nat_le r.0 at && nat_le r.1 (at - r.0)

-- the ranges behind some first ones, each of which ends at an address or before it
pub record IsRest (ranges : List (ℕ × ℕ)) (at : ℕ) (rest : List (ℕ × ℕ)) : Type 0 where
  pub first : List (ℕ × ℕ)
  pub all : ranges ≡ first ++ rest
  pub ended : Each (λ r. r.0 + r.1 ≤ at) first
