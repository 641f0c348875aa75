-- What a deframer holds of a frame.
use Rattle.std.specs.Prelude.{ℕ, Bool, true, false, List, [], Option, None, Some}

-- what a deframer holds of a frame: None where nothing more of the connection is looked at
abbrev pub is_deaf : Option (List ℕ) → Bool
is_deaf None = true
is_deaf (Some held) = false

abbrev pub unfinished_of : Option (List ℕ) → List ℕ
unfinished_of None = []
unfinished_of (Some held) = held
