-- Bytes from one address on, copied over those that stand from another.
use Rattle.std.proofs.Common.{◌≡◌, ◌∙◌, sym, refl, ap, ◌+◌, ◌-◌, ◌<◌, ◌≤◌, ◌⊎◌, inl, inr, ℕ, List, ◌++◌, length, take, drop, length-drop, min, max, arith}
use Rattle.std.proofs.lemmas.Bool.{cases_lt}
use Rattle.std.proofs.lemmas.List.{length-take-le}
use Rattle.std.specs.Prelude.{slice_get}
use Rattle.span_store.proofs.Pieces.{slice_get-drop}
use Rattle.span_store.proofs.Settled.{slice_get-take}
use Rattle.session_image.specs.Kept.{byte_in, laid}
use Rattle.session_image.proofs.Laid.{byte_outside, byte_inside, laid_none, laid_rest, laid_step}

-- the bytes end where the range begins or before, or begin where it ends or behind
pub laid_away : (at from : ℕ) (bytes out : List ℕ) (first : ℕ) → first ≡ max at from → (at + length bytes ≤ first) ⊎ (from + length out ≤ first) → out ≡ laid (byte_in at bytes) from out
laid_away at from bytes out first is away =
    sym (laid_none (byte_in at bytes) from out (λ b l u. byte_outside at bytes b (where_is b l u (cases_lt b at))))
  where
    where_is : (b : ℕ) → from ≤ b → b < from + length out → (b < at) ⊎ (at ≤ b) → (b < at) ⊎ (at + length bytes ≤ b)
    where_is b l u (inl lt) = inl lt
    where_is b l u (inr ge) = inr (elim away [
      | inl ends ↦ omega arith
      | inr begins ↦ absurd (omega arith)
    ])

pub laid_over : (at from : ℕ) (bytes out new : List ℕ) (first k : ℕ) → first ≡ max at from → first ≤ at + length bytes → first ≤ from + length out
    → k ≡ min (at + length bytes - first) (from + length out - first)
    → new ≡ take (first - from) out ++ (take k (drop (first - at) bytes) ++ drop (first - from + k) out) → new ≡ laid (byte_in at bytes) from out
laid_over at from bytes out new first k is begins room many copied =
    let look = byte_in at bytes in
    let g : ℕ = first - from in
    let there : List ℕ = drop (first - at) bytes in
    let mid : List ℕ = take k there in
    let size : length there ≡ length bytes - (first - at) = length-drop (first - at) bytes in
    let cut : length mid ≡ k = length-take-le k there (omega (arith, size)) in
    let fits : 0 + (g + k) ≤ length out = omega arith in
    let zero_g : 0 + g ≡ first - from = omega arith in
    let zero_end : 0 + (g + k) ≡ first - from + k = omega arith in
    let step : new ≡ laid look from (take (0 + (g + k)) out) ++ drop (0 + (g + k)) out =
    laid_step look from 0 g k out mid out new fits refl
    (λ b l u. byte_outside at bytes b (inl (omega arith)))
    cut
    (λ i l.
    let m : ℕ = from + 0 + g + i in
    let low : at ≤ from + 0 + g + i = omega arith in
    let same : from + 0 + g + i - at ≡ first - at + i = omega arith in
    byte_inside at bytes (from + 0 + g + i) low (omega (arith, cut))
    ∙ ap (slice_get bytes) same
    ∙ sym (slice_get-drop bytes (first - at) i)
    ∙ sym (slice_get-take there k i (omega (arith, cut))))
    (copied ∙ ap (λ x. take x out ++ (mid ++ drop (first - from + k) out)) (sym zero_g) ∙ ap (λ x. take (0 + g) out ++ (mid ++ drop x out)) (sym zero_end)) in
    laid_rest look from (0 + (g + k)) out new fits step (λ b l u. byte_outside at bytes b (inr (omega arith)))
