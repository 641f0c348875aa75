-- Units by their number.
use Rattle.std.proofs.Common.{◌≡◌, ℕ, zero, suc, ◌<◌, List, [], ◌∷◌, length, slice_get, get_or, Some, sym, ◌∙◌, ap, subst, arith}
use Rattle.flash_plan.specs.declared.unit.UnitPlan.{UnitPlan}
use Rattle.flash_plan.specs.Plan.{nth_plan, IsAccepted, IsAcceptedUnit}

pub nth_plan-get : (us : List UnitPlan) (n : ℕ) (u : UnitPlan) → slice_get us n ≡ Some u → u ≡ nth_plan us n
nth_plan-get [] n u h = cc
nth_plan-get (x ∷ xs) zero u h = cc
nth_plan-get (x ∷ xs) (suc n) u h = nth_plan-get xs n u h

pub nth_plan-read : (us : List UnitPlan) (n : ℕ) (u : UnitPlan) → n < length us → u ≡ get_or us n u → nth_plan us n ≡ u
nth_plan-read [] n u lt h = absurd (omega (arith, lt))
nth_plan-read (x ∷ xs) zero u lt h = sym h
nth_plan-read (x ∷ xs) (suc n) u lt h = nth_plan-read xs n u (omega (arith, lt)) h

-- the unit that is read of an accepted plan is accepted
pub accepted_read : (P us : List UnitPlan) (n : ℕ) (u : UnitPlan) → IsAccepted P → us ≡ P → n < length us → u ≡ get_or us n u → IsAcceptedUnit u
accepted_read P us n u h e lt is =
    let p' : n < length P = omega (arith, ap length e, lt) in
    let same : nth_plan P n ≡ u = ap (λ (x : List UnitPlan). nth_plan x n) (sym e) ∙ nth_plan-read us n u lt is in
    subst IsAcceptedUnit same (h.each n p')
