-- What the lines of a text do, one after another.
use Rattle.std.specs.Prelude.{ℕ, ◌+◌, List, [], ◌∷◌, Result, Ok}
use Rattle.rec_text.specs.Putting.{◌>>=◌}
use Rattle.rec_text.specs.declared.fault.RecFault.{RecFault}

-- what the lines after line n make of a state, each with its number, or the first refusal
abbrev pub steps : {S : Type 0} → (S → ℕ → List ℕ → Result S RecFault) → S → ℕ → List (List ℕ)
    → Result S RecFault
steps step s n [] = Ok s
steps step s n (line ∷ more) = step s (n + 1) line >>= λ t. steps step t (n + 1) more
