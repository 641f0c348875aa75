-- Answers by their bytes.
use Rattle.std.specs.Prelude.{ℕ, List, [], ◌∷◌, ◌++◌}
use Rattle.flash_base.specs.Numbers.{big_endian}

-- of a routine that ended with a status
abbrev pub routine_bytes : ℕ → ℕ → List ℕ
routine_bytes id status = 113 ∷ 1 ∷ (big_endian 2 id ++ (status ∷ []))
