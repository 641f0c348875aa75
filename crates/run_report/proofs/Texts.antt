-- The texts of `check` and `image`, piece by piece.
use Rattle.std.proofs.Common.{◌≡◌, ℕ, zero, suc, ◌+◌, ◌<◌, List, [], ◌∷◌, ◌++◌, length, drop, slice_get, Some, refl, sym, ◌∙◌, ap, append_assoc, arith}
use Rattle.flash_plan.specs.declared.unit.Segment.{Segment}
use Rattle.flash_plan.specs.declared.unit.UnitPlan.{UnitPlan}
use Rattle.flash_plan.specs.Plan.{nth_plan, size_of, total_of}
use Rattle.run_report.specs.Imaging.{segment_line, segment_lines}

-- the bytes of the units from the one with number n on
pub total-more : (us : List UnitPlan) (n : ℕ) → n < length us → total_of (drop n us) ≡ size_of (nth_plan us n).segments + total_of (drop (suc n) us)
total-more [] n lt = absurd (omega (arith, lt))
total-more (u ∷ us) zero lt = refl
total-more (u ∷ us) (suc n) lt = total-more us n (omega (arith, lt))

-- one more unit
pub total_step : (us : List UnitPlan) (n sum size all : ℕ) → n < length us → sum + total_of (drop n us) ≡ all → size ≡ size_of (nth_plan us n).segments
    → (sum + size) + total_of (drop (n + 1) us) ≡ all
total_step us n sum size all lt so is =
    let next : n + 1 ≡ suc n = omega arith in
    rw next (omega (arith, so, is, total-more us n lt))

lines-at : (i : ℕ) (ss : List Segment) (n : ℕ) (s : Segment) → slice_get ss n ≡ Some s → segment_lines (i + n) (drop n ss) ≡ segment_line (i + n) s ++ segment_lines (suc (i + n)) (drop (suc n) ss)
lines-at i [] n s at = absurd cc
lines-at i (t ∷ ss) zero s at = let e : t ≡ s = cc in rw e refl
lines-at i (t ∷ ss) (suc n) s at =
    let e : i + suc n ≡ suc i + n = omega arith in
    rw e (lines-at (suc i) ss n s at)

-- one more segment
pub lines_step : (ss : List Segment) (n : ℕ) (s : Segment) (start out new : List ℕ) → slice_get ss n ≡ Some s
    → out ++ segment_lines n (drop n ss) ≡ start ++ segment_lines 0 ss → new ≡ out ++ segment_line n s
    → new ++ segment_lines (n + 1) (drop (n + 1) ss) ≡ start ++ segment_lines 0 ss
lines_step ss n s start out new at so is =
    let next : n + 1 ≡ suc n = omega arith in
    let zeroed : 0 + n ≡ n = omega arith in
    let more : segment_lines n (drop n ss) ≡ segment_line n s ++ segment_lines (suc n) (drop (suc n) ss) = rw zeroed at (lines-at 0 ss n s at) in
    rw (next, is, append_assoc out (segment_line n s) (segment_lines (suc n) (drop (suc n) ss)))
    (ap (λ (x : List ℕ). out ++ x) (sym more) ∙ so)

-- three pairs of pieces, one after another
pub three_pairs : (out n1 n2 n3 w s b1 d1 b2 d2 : List ℕ) → n1 ≡ out ++ (w ++ s) → n2 ≡ n1 ++ (b1 ++ d1) → n3 ≡ n2 ++ (b2 ++ d2) → n3 ≡ out ++ (w ++ s ++ b1 ++ d1 ++ b2 ++ d2)
three_pairs out n1 n2 n3 w s b1 d1 b2 d2 e1 e2 e3 =
    e3 ∙ ap (λ (x : List ℕ). x ++ (b2 ++ d2)) (e2 ∙ ap (λ (x : List ℕ). x ++ (b1 ++ d1)) e1) ∙ simp append_assoc
