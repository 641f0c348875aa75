-- What is recorded of units, one after another.
use Rattle.std.proofs.Common.{◌≡◌, ℕ, zero, suc, ◌+◌, ◌<◌, ◌≤◌, Bool, List, [], ◌∷◌, ◌++◌, length, drop, cond, refl, sym, ◌∙◌, ap, append_assoc, arith}
use Rattle.std.proofs.lemmas.List.{append-nil, drop_all}
use Rattle.flash_plan.specs.declared.outcome.Entry.{Entry}
use Rattle.flash_plan.specs.declared.outcome.Entry.TheVariants.{Complete}
use Rattle.flash_plan.specs.declared.unit.UnitPlan.{UnitPlan}
use Rattle.flash_plan.specs.Plan.{nth_plan}
use Rattle.run_report.specs.Recorded.{recorded_line, recorded_lines, complete_from}

module _ (records : Entry → Bool) where
  lines_at : (i : ℕ) (us : List UnitPlan) (n : ℕ) → n < length us
      → recorded_lines records (i + n) (drop n us) ≡ recorded_line records (i + n) (nth_plan us n) ++ recorded_lines records (suc (i + n)) (drop (suc n) us)
  lines_at i [] n lt = absurd (omega (arith, lt))
  lines_at i (u ∷ us) zero lt = refl
  lines_at i (u ∷ us) (suc n) lt =
      let e : i + suc n ≡ suc i + n = omega arith in
      rw e (lines_at (suc i) us n (omega (arith, lt)))

  complete_at : (i : ℕ) (us : List UnitPlan) (n : ℕ) → n < length us
      → complete_from records (i + n) (drop n us) ≡ cond (records (Complete (i + n))) 1 0 + complete_from records (suc (i + n)) (drop (suc n) us)
  complete_at i [] n lt = absurd (omega (arith, lt))
  complete_at i (u ∷ us) zero lt = refl
  complete_at i (u ∷ us) (suc n) lt =
      let e : i + suc n ≡ suc i + n = omega arith in
      rw e (complete_at (suc i) us n (omega (arith, lt)))

  -- one more line
  pub lines_step : (us : List UnitPlan) (n : ℕ) (u : UnitPlan) (start out new : List ℕ) → n < length us → u ≡ nth_plan us n
      → out ++ recorded_lines records n (drop n us) ≡ start ++ recorded_lines records 0 us → new ≡ out ++ recorded_line records n u
      → new ++ recorded_lines records (n + 1) (drop (n + 1) us) ≡ start ++ recorded_lines records 0 us
  lines_step us n u start out new lt same so is =
      let next : n + 1 ≡ suc n = omega arith in
      let zeroed : 0 + n ≡ n = omega arith in
      let more : recorded_lines records n (drop n us) ≡ recorded_line records n (nth_plan us n) ++ recorded_lines records (suc n) (drop (suc n) us) = rw zeroed at (lines_at 0 us n lt) in
      rw (next, is, same, append_assoc out (recorded_line records n (nth_plan us n)) (recorded_lines records (suc n) (drop (suc n) us)))
      (ap (λ (x : List ℕ). out ++ x) (sym more) ∙ so)

  -- no more lines
  pub lines_end : (us : List UnitPlan) (n : ℕ) (start out : List ℕ) → length us ≤ n
      → out ++ recorded_lines records n (drop n us) ≡ start ++ recorded_lines records 0 us → out ≡ start ++ recorded_lines records 0 us
  lines_end us n start out le so =
      let none : drop n us ≡ [] = drop_all n us le in
      let empty : recorded_lines records n (drop n us) ≡ [] = rw none refl in
      sym (ap (λ (x : List ℕ). out ++ x) empty ∙ append-nil out) ∙ so

  -- one more unit
  pub count_step : (us : List UnitPlan) (n count one all : ℕ) → n < length us → count + complete_from records n (drop n us) ≡ all → one ≡ cond (records (Complete n)) 1 0
      → (count + one) + complete_from records (n + 1) (drop (n + 1) us) ≡ all
  count_step us n count one all lt so is =
      let next : n + 1 ≡ suc n = omega arith in
      let zeroed : 0 + n ≡ n = omega arith in
      let more : complete_from records n (drop n us) ≡ cond (records (Complete n)) 1 0 + complete_from records (suc n) (drop (suc n) us) = rw zeroed at (complete_at 0 us n lt) in
      rw next (omega (arith, so, is, more))

  pub count_end : (us : List UnitPlan) (n count all : ℕ) → length us ≤ n → count + complete_from records n (drop n us) ≡ all → count ≡ all
  count_end us n count all le so =
      let none : drop n us ≡ [] = drop_all n us le in
      let empty : complete_from records n (drop n us) ≡ 0 = rw none refl in
      omega (arith, so, empty)
