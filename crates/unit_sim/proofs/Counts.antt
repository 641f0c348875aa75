-- Counts by code.
use Rattle.std.proofs.Common.{◌≡◌, inl, inr, ℕ, get_or, replicate, arith}
use Rattle.std.proofs.lemmas.Bool.{cases_lt}
use Rattle.std.proofs.lemmas.List.{get_or-replicate, get_or_past, length-replicate}
use Rattle.unit_sim.specs.Tallies.{by_code}

zero_at : (n code : ℕ) → ◌≡◌ {A = ℕ} (get_or (replicate n 0) code 0) 0
zero_at n code = elim (cases_lt code n) [
  | inl lt ↦ get_or-replicate n code 0 0 lt
  | inr ge ↦ get_or_past (replicate n 0) code 0 (omega (arith, length-replicate {A = ℕ} n 0, ge))
]

pub zeros : (n : ℕ) → by_code (replicate n 0) ≡ (λ code. 0)
zeros n = λ i code. zero_at n code i
