-- The number of the unit with a name.
use Rattle.std.proofs.Common.{◌≡◌, ℕ, zero, suc, ◌+◌, ◌<◌, Bool, true, false, cond, List, [], ◌∷◌, length, drop, refl, sym, ◌∙◌, arith}
use Rattle.std.specs.Prelude.{Some}
use Rattle.std.specs.List.{position_from}
use Rattle.flash_plan.specs.declared.unit.UnitPlan.{UnitPlan}
use Rattle.flash_plan.specs.Plan.{nth_plan}

at : (t : UnitPlan → Bool) (i : ℕ) (P : List UnitPlan) (n : ℕ) → n < length P
    → position_from t (i + n) (drop n P) ≡ cond (t (nth_plan P n)) (Some (i + n)) (position_from t (i + n + 1) (drop (suc n) P))
at t i [] n lt = absurd (omega (arith, lt))
at t i (u ∷ us) zero lt = refl
at t i (u ∷ us) (suc n) lt =
    let e : i + suc n ≡ suc i + n = omega arith in
    rw e (at t (suc i) us n (omega (arith, lt)))

-- the unit that is looked at decides, or the later ones do
pub position_at : (t : UnitPlan → Bool) (P : List UnitPlan) (n : ℕ) → n < length P
    → position_from t n (drop n P) ≡ cond (t (nth_plan P n)) (Some n) (position_from t (n + 1) (drop (n + 1) P))
position_at t P n lt =
    let zeroed : 0 + n ≡ n = omega arith in
    let next : n + 1 ≡ suc n = omega arith in
    let e = rw zeroed at (at t 0 P n lt) in
    e ∙ rw next refl

pub found : (t : UnitPlan → Bool) (P : List UnitPlan) (n : ℕ) (b : Bool) → n < length P → b ≡ t (nth_plan P n) → b ≡ true
    → position_from t 0 P ≡ position_from t n (drop n P) → Some n ≡ position_from t 0 P
found t P n b lt is holds_so so =
    let e = position_at t P n lt in
    let holds : t (nth_plan P n) ≡ true = sym is ∙ holds_so in
    sym (so ∙ e ∙ rw holds refl)

pub passed : (t : UnitPlan → Bool) (P : List UnitPlan) (n : ℕ) (b : Bool) → n < length P → b ≡ t (nth_plan P n) → b ≡ false
    → position_from t 0 P ≡ position_from t n (drop n P) → position_from t 0 P ≡ position_from t (n + 1) (drop (n + 1) P)
passed t P n b lt is fails_so so =
    let e = position_at t P n lt in
    let fails : t (nth_plan P n) ≡ false = sym is ∙ fails_so in
    so ∙ e ∙ rw fails refl
