-- Payloads byte by byte.
use Rattle.std.proofs.Common.{◌≡◌, ℕ, List, [], ◌∷◌, length, None, refl}
use Rattle.doip_frame.specs.Frame.{oem_of}

pub no_oem : (l : List ℕ) → (length l ≡ 4 → ⊥) → None ≡ oem_of l
no_oem [] h = refl
no_oem (a ∷ []) h = refl
no_oem (a ∷ b ∷ []) h = refl
no_oem (a ∷ b ∷ c ∷ []) h = refl
no_oem (a ∷ b ∷ c ∷ d ∷ []) h = absurd (h refl)
no_oem (a ∷ b ∷ c ∷ d ∷ e ∷ l) h = refl
