-- The value of a checksum by its algorithm.
use Rattle.std.proofs.Common.{◌≡◌, refl, cond, ℕ, List, Bool, true, false, Some, None, bytes_eq, codes}
use Rattle.std.specs.Option.{option_map}
use Rattle.session_image.specs.Algorithms.{known, value_of}
use Rattle.session_image.specs.Checks.{value_by}
use Rattle.session_image.specs.declared.checks.Algorithm.TheVariants.{Sha256, Sum16}

chosen : (s t : Bool) (bytes : List ℕ) →
    cond s (Some (value_of Sha256 bytes)) (cond t (Some (value_of Sum16 bytes)) None) ≡ option_map (λ k. value_of k bytes) (cond s (Some Sha256) (cond t (Some Sum16) None))
chosen true t bytes = refl
chosen false true bytes = refl
chosen false false bytes = refl

pub value_known : (alg bytes : List ℕ) → value_by alg bytes ≡ option_map (λ k. value_of k bytes) (known alg)
value_known alg bytes = chosen (bytes_eq alg (codes "SHA-256")) (bytes_eq alg (codes "SUM-16")) bytes
