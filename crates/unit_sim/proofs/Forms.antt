-- Bytes of a slice, and requests that have a spelling.
use Rattle.std.proofs.Common.{ℕ, zero, suc, ◌<◌, ◌≤◌, ◌^◌, List, [], ◌∷◌, length, get_or, arith}
use Rattle.flash_base.specs.Numbers.{pow256}
use Rattle.flash_base.specs.declared.unit.Width.{Width}
use Rattle.uds_codec.specs.Form.{IsRange, AreBytes}
use Rattle.unit_sim.specs.Transfers.{IsLow}

pub are_bytes : (xs : List ℕ) → ((k : ℕ) → k < length xs → get_or xs k 0 < 256) → AreBytes xs
are_bytes [] each = tt
are_bytes (x ∷ xs) each = (each 0 (omega arith), are_bytes xs (λ k lt. each (suc k) (omega (arith, lt))))

five : (n : ℕ) → n ≤ 5 → pow256 n ≤ 2 ^ 40
five zero le = omega arith
five (suc zero) le = omega arith
five (suc (suc zero)) le = omega arith
five (suc (suc (suc zero))) le = omega arith
five (suc (suc (suc (suc zero)))) le = omega arith
five (suc (suc (suc (suc (suc zero))))) le = omega arith
five (suc (suc (suc (suc (suc (suc n)))))) le = absurd (omega (arith, le))

four : (n : ℕ) → n ≤ 4 → pow256 n ≤ 2 ^ 32
four zero le = omega arith
four (suc zero) le = omega arith
four (suc (suc zero)) le = omega arith
four (suc (suc (suc zero))) le = omega arith
four (suc (suc (suc (suc zero)))) le = omega arith
four (suc (suc (suc (suc (suc n))))) le = absurd (omega (arith, le))

pub is_low : (width : Width) (at size : ℕ) → IsRange width at size → IsLow at size
is_low width at size is = record { at_most = omega (arith, is.at_fits, five width.at is.widths.few_at); size_most = omega (arith, is.size_fits, four width.size is.widths.few_size) }
