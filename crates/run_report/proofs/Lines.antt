-- The lines of units, one after another.
use Rattle.std.proofs.Common.{◌≡◌, ℕ, zero, suc, ◌+◌, ◌<◌, ◌≤◌, List, [], ◌∷◌, ◌++◌, length, drop, slice_get, Some, refl, sym, ◌∙◌, ap, append_assoc, codes, decimal, arith}
use Rattle.std.proofs.lemmas.List.{append-nil, drop_all}
use Rattle.flash_plan.specs.declared.outcome.Outcome.{Outcome}
use Rattle.flash_plan.specs.declared.unit.UnitPlan.{UnitPlan}
use Rattle.flash_plan.specs.Plan.{nth_plan, no_plan}
use Rattle.flash_plan.specs.declared.outcome.Outcome.TheVariants.{CheckFailed}
use Rattle.run_report.specs.Report.{lines, unit_line, four, two, outcome_text}

-- a number that is no unit's
pub nth_plan-past : (P : List UnitPlan) (n : ℕ) → length P ≤ n → nth_plan P n ≡ no_plan
nth_plan-past [] n le = refl
nth_plan-past (u ∷ us) zero le = absurd (omega (arith, le))
nth_plan-past (u ∷ us) (suc n) le = nth_plan-past us n (omega (arith, le))

lines_more : (P us : List UnitPlan) (os : List Outcome) (n : ℕ) (o : Outcome) → n < length us → slice_get os n ≡ Some o
    → lines P (drop n us) (drop n os) ≡ unit_line P (nth_plan us n) o ++ lines P (drop (suc n) us) (drop (suc n) os)
lines_more P [] os n o lt at = absurd (omega (arith, lt))
lines_more P (u ∷ us) [] n o lt at = cc
lines_more P (u ∷ us) (x ∷ os) zero o lt at = let e : x ≡ o = cc in rw e refl
lines_more P (u ∷ us) (x ∷ os) (suc n) o lt at = lines_more P us os n o (omega (arith, lt)) at

-- one more line
pub line_more : (P : List UnitPlan) (os : List Outcome) (n : ℕ) (u : UnitPlan) (o : Outcome) (start out new : List ℕ) → n < length P → slice_get os n ≡ Some o
    → u ≡ nth_plan P n → out ++ lines P (drop n P) (drop n os) ≡ start ++ lines P P os → new ≡ out ++ unit_line P u o
    → new ++ lines P (drop (n + 1) P) (drop (n + 1) os) ≡ start ++ lines P P os
line_more P os n u o start out new lt at is so e =
    let next : n + 1 ≡ suc n = omega arith in
    let same : new ≡ out ++ unit_line P (nth_plan P n) o = e ∙ ap (λ (x : UnitPlan). out ++ unit_line P x o) is in
    rw (next, same, append_assoc out (unit_line P (nth_plan P n) o) (lines P (drop (suc n) P) (drop (suc n) os)))
    (ap (λ (x : List ℕ). out ++ x) (sym (lines_more P P os n o lt at)) ∙ so)

-- no more lines
pub lines_end : (P : List UnitPlan) (os : List Outcome) (n : ℕ) (start out : List ℕ) → length P ≤ n
    → out ++ lines P (drop n P) (drop n os) ≡ start ++ lines P P os → out ≡ start ++ lines P P os
lines_end P os n start out le so =
    let none : drop n P ≡ [] = drop_all n P le in
    let empty : lines P (drop n P) (drop n os) ≡ [] = rw none refl in
    sym (ap (λ (x : List ℕ). out ++ x) empty ∙ append-nil out) ∙ so

-- two pieces, one after the other
glue : (old a b new newer : List ℕ) → new ≡ old ++ a → newer ≡ new ++ b → newer ≡ old ++ (a ++ b)
glue old a b new newer e f = f ∙ ap (λ (x : List ℕ). x ++ b) e ∙ append_assoc old a b

pub check_pieces : (out n1 n2 n3 n4 n5 : List ℕ) (routine segment status : ℕ) → n1 ≡ out ++ (codes "check failed " ++ four routine) → n2 ≡ n1 ++ codes " "
    → n3 ≡ n2 ++ decimal segment → n4 ≡ n3 ++ codes " " → n5 ≡ n4 ++ two status → n5 ≡ out ++ outcome_text [] (CheckFailed routine segment status)
check_pieces out n1 n2 n3 n4 n5 routine segment status e1 e2 e3 e4 e5 =
    let a1 : List ℕ = codes "check failed " ++ four routine in
    let a2 : List ℕ = a1 ++ codes " " in
    let a3 : List ℕ = a2 ++ decimal segment in
    let a4 : List ℕ = a3 ++ codes " " in
    let g2 = glue out a1 (codes " ") n1 n2 e1 e2 in
    let g3 = glue out a2 (decimal segment) n2 n3 g2 e3 in
    let g4 = glue out a3 (codes " ") n3 n4 g3 e4 in
    glue out a4 (two status) n4 n5 g4 e5
