-- The bytes of a new journal, and of one that stands behind a migrated file.
use Rattle.std.specs.Prelude.{ℕ, ◌+◌, ◌*◌, ◌/◌, ◌%◌, List, [], ◌∷◌, ◌++◌, replicate}
use Rattle.journal_model.specs.Records.{Label, slots_of, new_form}

-- the first 16 bytes of version 2, for n slots
abbrev pub front16 : ℕ → ℕ → List ℕ
front16 gate n = gate ∷ 79 ∷ 68 ∷ 88 ∷ 70 ∷ 74 ∷ 78 ∷ 76 ∷ 2 ∷ 0 ∷ 0 ∷ 0 ∷ n / 16777216 ∷ n / 65536 % 256
    ∷ n / 256 % 256 ∷ n % 256 ∷ []

-- the first 48 bytes of the plan's journal, and a new one with a closed gate
abbrev pub head_bytes : Label → ℕ → List ℕ
head_bytes P gate = front16 gate (slots_of (new_form P 0)) ++ P.digest

abbrev pub new_bytes : Label → List ℕ
new_bytes P = head_bytes P 0 ++ replicate (16 + 17 * slots_of (new_form P 0)) 0
