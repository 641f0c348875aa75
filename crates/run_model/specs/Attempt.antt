-- An attempt: what its answers and marks lead to, place by place, is what the script says of them all.
use Rattle.std.specs.Prelude.{◌≡◌, ℕ, Bool, true, List, [], ◌∷◌, ◌++◌, length}
use Rattle.flash_plan.specs.declared.unit.UnitPlan.{UnitPlan}
use Rattle.run_model.specs.Entries.{with_mark}
use Rattle.run_model.specs.Places.{needs_request}
use Rattle.run_model.specs.Script.{Cursor, Place, AtMark, start_place, place_after, place_marked, place_of}

-- An attempt so far, with the segments that are marked now, its final answers, and the place where it stands: it starts with
-- those that were marked before; an answer comes where a request was due; the segment in hand is marked where it stands at that.
pub data Attempt (u : UnitPlan) (begun : Bool) (skipped : ℕ → Bool) : (ℕ → Bool) → List (List ℕ) → Place
    → Type 0 where
  starts : Attempt u begun skipped skipped [] (start_place u begun)
  hears : (marks : ℕ → Bool) (answers : List (List ℕ)) (place : Place) (body : List ℕ)
      → needs_request place ≡ true
      → Attempt u begun skipped marks answers place
      → Attempt u begun skipped marks (answers ++ (body ∷ [])) (place_after u marks place body)
  marks_one : (marks : ℕ → Bool) (answers : List (List ℕ)) (c : Cursor)
      → Attempt u begun skipped marks answers (AtMark c)
      → Attempt u begun skipped (with_mark (length c.done) marks) answers
      (place_marked (with_mark (length c.done) marks) (AtMark c))

-- a conversation that knows only which segments are marked now stands where the script stands that knows also those marked when
-- the attempt began
abbrev pub AttemptLaw : Type 0
AttemptLaw = (u : UnitPlan) (begun : Bool) (skipped marks : ℕ → Bool) (answers : List (List ℕ))
    (place : Place)
    → Attempt u begun skipped marks answers place
    → place ≡ place_of u skipped marks (start_place u begun) answers
