-- The units of drafts, as they are numbered.
use Rattle.std.specs.Prelude.{◌≡◌, ◌⊎◌, ℕ, Bool, true, false, List, [], ◌∷◌, ◌++◌, Option, Some, None, bytes_eq}
use Rattle.std.specs.List.{list_any}
use Rattle.flash_plan.specs.declared.unit.Draft.{Draft}
use Rattle.flash_plan.specs.declared.unit.UnitPlan.{UnitPlan}
use Rattle.flash_plan.specs.Accepting.{draft_of}

-- whether a text is one of these
abbrev pub has_text : List (List ℕ) → List ℕ → Bool
has_text names text = list_any (λ name. bytes_eq name text) names

-- whether a draft names task w
abbrev pub names_task : List Draft → Draft → ℕ → Bool
names_task ds d w = has_text d.after (draft_of ds w).name

abbrev pub one_if : Bool → ℕ → List ℕ
one_if true n = n ∷ []
one_if false n = []

-- a draft's unit, with the numbers of the units that it waits for
abbrev pub numbered_with : Draft → List ℕ → UnitPlan
numbered_with d after = record {
  name = d.name;
  address = d.address;
  width = d.width;
  check = d.check;
  key = d.key;
  idents = d.idents;
  after = after;
  segments = d.segments;
}

-- the unit of the last draft, which is taken from the drafts, as its numbers are
abbrev pub TakesLast : List Draft → List (List ℕ) → List Draft → List (List ℕ) → Option UnitPlan → Type 0
TakesLast old afters new rest None = (old ≡ []) ⊎ (afters ≡ [])
TakesLast old afters new rest (Some u) = (d : Draft) × (after : List ℕ) × (old ≡ new ++ d ∷ [])
    × (afters ≡ rest ++ after ∷ []) × (u ≡ numbered_with d after)
