-- The text of `status`: the plan's digest, a line for each unit with what is recorded of it, and how many are recorded complete.
use Rattle.std.specs.Prelude.{ℕ, suc, ◌+◌, Bool, true, false, ◌||◌, List, [], ◌∷◌, ◌++◌, codes, decimal, if◌then◌else◌}
use Rattle.hex.specs.Hex.{encode_lower}
use Rattle.flash_plan.specs.declared.outcome.Entry.{Entry}
use Rattle.flash_plan.specs.declared.outcome.Entry.TheVariants.{Begun, Complete}
use Rattle.flash_plan.specs.declared.unit.UnitPlan.{UnitPlan}
use Rattle.flash_plan.specs.Canonical.{plan_digest}
use Rattle.flash_plan.specs.Outcomes.{same_entry}
use Rattle.flash_plan.specs.Plan.{count_of}
use Rattle.run_report.specs.Report.{four}

-- the entry is among those of a list
abbrev pub is_among : List Entry → Entry → Bool
is_among [] e = false
is_among (x ∷ xs) e = same_entry x e || is_among xs e

-- what records tell of unit n: it is complete; it is begun and not complete; neither
abbrev pub standing_text : (Entry → Bool) → ℕ → List ℕ
standing_text records n =
    if records (Complete n) then codes "complete"
    else if records (Begun n) then codes "incomplete"
    else codes "untouched"

abbrev pub recorded_line : (Entry → Bool) → ℕ → UnitPlan → List ℕ
recorded_line records n u =
    codes "unit " ++ u.name ++ codes " " ++ four u.address ++ codes " " ++ standing_text records n
    ++ codes "\n"

-- the lines of units, of which the first has number n
abbrev pub recorded_lines : (Entry → Bool) → ℕ → List UnitPlan → List ℕ
recorded_lines records n [] = []
recorded_lines records n (u ∷ us) = recorded_line records n u ++ recorded_lines records (suc n) us

-- how many units are recorded complete, of those from number n on
abbrev pub complete_from : (Entry → Bool) → ℕ → List UnitPlan → ℕ
complete_from records n [] = 0
complete_from records n (u ∷ us) = (if records (Complete n) then 1 else 0) + complete_from records (suc n) us

abbrev pub status_text : List UnitPlan → (Entry → Bool) → List ℕ
status_text P records =
    codes "plan " ++ encode_lower (plan_digest P) ++ codes "\n" ++ recorded_lines records 0 P
    ++ codes "complete " ++ decimal (complete_from records 0 P) ++ codes " of " ++ decimal (count_of P)
    ++ codes "\n"
