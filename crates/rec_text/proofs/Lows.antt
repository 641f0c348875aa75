-- Bytes below 2^32.
use Rattle.std.proofs.Common.{ℕ, ◌+◌, ◌^◌, ◌<◌, ◌≤◌, List, length, inl, inr, arith}
use Rattle.std.proofs.lemmas.Bool.{cases_lt}
use Rattle.std.specs.FinMap.{get}
use Rattle.span_store.specs.ByteMap.{ByteMap, Holds}
use Rattle.span_store.proofs.Maps.{held_some, some_not_none}
use Rattle.rec_text.specs.Cutting.{IsLow}

-- no byte of the map stands there
not_there : (m : ByteMap) (at : ℕ) (bs : List ℕ) (a : ℕ) → IsLow m → Holds m at bs → 2 ^ 32 ≤ a → at ≤ a → a < at + length bs → ⊥
not_there m at bs a low h past l u = some_not_none (get m a) (held_some m at bs h a l u) (low a past)

-- bytes of the map end at most there
pub ends_low : (m : ByteMap) (at : ℕ) (bs : List ℕ) → IsLow m → Holds m at bs → 0 < length bs → at + length bs ≤ 2 ^ 32
ends_low m at bs low h some =
    elim (cases_lt (2 ^ 32) (at + length bs)) [
      | inr le ↦ le
      | inl lt ↦ elim (cases_lt at (2 ^ 32)) [
        | inl l ↦ absurd (not_there m at bs (2 ^ 32) low h (omega arith) (omega arith) lt)
        | inr g ↦ absurd (not_there m at bs at low h g (omega arith) (omega arith))
      ]
    ]
