-- The addresses of a plan's units.
use Rattle.std.proofs.Common.{◌≡◌, ℕ, zero, suc, ◌+◌, ◌<◌, List, [], ◌∷◌, ◌++◌, length, take, refl, sym, ◌∙◌, ap, arith, add-one}
use Rattle.std.specs.Prelude.{slice_index}
use Rattle.bay_core.specs.Core.{addresses_of}
use Rattle.flash_plan.specs.declared.unit.UnitPlan.{UnitPlan}
use Rattle.flash_plan.specs.Plan.{plan_of, count_of, IsAccepted}
use Rattle.link_state.specs.State.{AreDistinct}

addresses_suc : (P : List UnitPlan) (n : ℕ) → n < count_of P → addresses_of (take (suc n) P) ≡ addresses_of (take n P) ++ ((plan_of P n).address ∷ [])
addresses_suc [] n lt = absurd (omega (arith, lt))
addresses_suc (u ∷ us) zero lt = refl
addresses_suc (u ∷ us) (suc n) lt = ap (λ (xs : List ℕ). u.address ∷ xs) (addresses_suc us n (omega (arith, lt)))

addresses_more : (P : List UnitPlan) (n : ℕ) → n < count_of P → addresses_of (take (n + 1) P) ≡ addresses_of (take n P) ++ ((plan_of P n).address ∷ [])
addresses_more P n lt = ap (λ (k : ℕ). addresses_of (take k P)) (add-one n) ∙ addresses_suc P n lt

-- one unit more
pub addresses_next : (P : List UnitPlan) (n : ℕ) (xs ys : List ℕ) (u : UnitPlan) → n < count_of P → xs ≡ addresses_of (take n P) → u ≡ plan_of P n → ys ≡ xs ++ (u.address ∷ []) → ys ≡ addresses_of (take (n + 1) P)
addresses_next P n xs ys u lt before is more = more ∙ (λ i. before i ++ ((is i).address ∷ [])) ∙ sym (addresses_more P n lt)

pub addresses_size : (P : List UnitPlan) → length (addresses_of P) ≡ count_of P
addresses_size [] = refl
addresses_size (u ∷ us) = omega (arith, addresses_size us)

pub address_at : (P : List UnitPlan) (n : ℕ) → n < count_of P → slice_index (addresses_of P) n ≡ (plan_of P n).address
address_at [] n lt = absurd (omega (arith, lt))
address_at (u ∷ us) zero lt = refl
address_at (u ∷ us) (suc n) lt = address_at us n (omega (arith, lt))

pub distinct : (P : List UnitPlan) → IsAccepted P → AreDistinct (addresses_of P)
distinct P ok m n m_within n_within is =
    let m_lt : m < count_of P = omega (arith, m_within, addresses_size P) in
    let n_lt : n < count_of P = omega (arith, n_within, addresses_size P) in
    ok.addresses m n m_lt n_lt (sym (address_at P m m_lt) ∙ is ∙ address_at P n n_lt)
