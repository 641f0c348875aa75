-- The items of a slice of bytes are bytes.
use Rattle.std.proofs.Common.{ℕ, ◌<◌, List, [], ◌∷◌, suc, length, get_or, arith}
use Rattle.uds_codec.specs.Form.{AreBytes}

pub octets : (xs : List ℕ) → ((k : ℕ) → k < length xs → get_or xs k 0 < 256) → AreBytes xs
octets [] each = tt
octets (x ∷ xs) each = (each 0 (omega arith), octets xs (λ k lt. each (suc k) (omega (arith, lt))))
