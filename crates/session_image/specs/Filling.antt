-- The bytes of a segment, one stretch after another.
use Rattle.std.specs.Prelude.{ℕ, zero, suc, List, [], replicate, Option, Some, None, Result, Ok, Err}
use Rattle.session_image.specs.declared.types.ImageFault.{ImageFault}
use Rattle.session_image.specs.declared.types.ImageFault.TheVariants.{Hole}

-- so many addresses from one on without a byte
abbrev pub gap : ℕ → ℕ → ℕ → Option ℕ → Result (List ℕ) ImageFault
gap number from zero fill = Ok []
gap number from (suc n) None = Err (Hole number from)
gap number from (suc n) (Some x) = Ok (replicate (suc n) x)
