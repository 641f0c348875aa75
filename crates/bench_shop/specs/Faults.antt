-- Which calls fail, and which receives are garbled.
use Rattle.std.specs.Prelude.{◌≡◌, ℕ, ◌==◌, ◌&&◌, nat_le, Bool, true, List, [], ◌∷◌, length, Option, Some, None, if◌then◌else◌}
use Rattle.std.specs.List.{list_any}
use Rattle.flash_base.specs.Lists.{all_of}
use Rattle.bench_shop.specs.declared.faults.Faults.{Faults}

abbrev pub no_faults : Faults
no_faults = record { disk = []; link = []; garbled = [] }

-- 1 to 4,096 bytes
abbrev pub is_piece : ℕ × List ℕ → Bool
is_piece g = nat_le 1 (length g.1) && nat_le (length g.1) 4096

abbrev pub IsFaults : Faults → Type 0
IsFaults f = all_of f.garbled is_piece ≡ true

-- the number of a call is listed
abbrev pub is_listed : List ℕ → ℕ → Bool
is_listed numbers n = list_any (λ (k : ℕ). k == n) numbers

-- what the receive with this number brings, where it is garbled
abbrev pub piece_for : List (ℕ × List ℕ) → ℕ → Option (List ℕ)
piece_for [] n = None
piece_for (g ∷ gs) n = if g.0 == n then Some g.1 else piece_for gs n
