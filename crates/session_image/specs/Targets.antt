-- Target ranges, and how many of them have an address.
use Rattle.std.specs.Prelude.{ℕ, ◌+◌, ◌<◌, ◌≤◌, ◌&&◌, nat_lt, nat_le, List, [], ◌∷◌, length, Option, Some, None, if◌then◌else◌}
use Rattle.session_image.specs.declared.pieces.Piece.{Piece}

-- the target range of a segment, by its start and its end
abbrev pub range_of : Piece → ℕ × ℕ
range_of p = (p.target, p.target + length p.body)

abbrev pub ranges_of : List Piece → List (ℕ × ℕ)
ranges_of [] = []
ranges_of (p ∷ ps) = range_of p ∷ ranges_of ps

-- 1 where an address lies in a range
abbrev pub hit : ℕ → ℕ × ℕ → ℕ
hit a t = if nat_le t.0 a && nat_lt a t.1 then 1 else 0

-- how many ranges have an address
abbrev pub hits : ℕ → List (ℕ × ℕ) → ℕ
hits a [] = 0
hits a (t ∷ ts) = hit a t + hits a ts

-- the starts ascend from a number on, and no range is empty
abbrev pub Ascend : ℕ → List (ℕ × ℕ) → Type 0
Ascend low [] = Unit {0}
Ascend low (t ∷ ts) = (low ≤ t.0) × (t.0 < t.1) × Ascend t.0 ts

-- the first start below the end before it
abbrev pub first_met : ℕ → List (ℕ × ℕ) → Option ℕ
first_met reached [] = None
first_met reached (t ∷ ts) = if nat_lt t.0 reached then Some t.0 else first_met t.1 ts
