-- What contracts see of a pass.
use Rattle.std.specs.Prelude.{◌≡◌, ◌≢◌, ℕ, ◌<◌, List, [], length, Option, Some, Bool, true, false, slice_get, All, AllPairs}
use Rattle.atomic_table.specs.Seated.{TableId}

-- the turn it belongs to, whether it is the first pass, whether it holds the value, the opening, the entries that its holder has seen, the positions of its own entries, and for the first pass the number of the others
pub record PassState (O E : Type 0) : Type 0 where
  pub turn : TableId
  pub first : Bool
  pub holds : Bool
  pub opening : Option O
  pub seen : List E
  pub own : List ℕ
  pub others : ℕ

-- the first pass of a turn whose value has this opening and these entries
abbrev pub first_pass : {O E : Type 0} → TableId → O → List E → PassState O E
first_pass turn opening entries =
    record {
      turn = turn;
      first = true;
      holds = false;
      opening = Some opening;
      seen = entries;
      own = [];
      others = 0;
    }

-- a pass that was split from p has seen the same, and owns nothing
abbrev pub split_pass : {O E : Type 0} → PassState O E → PassState O E
split_pass p = record p { first = false; own = []; others = 0 }

-- the entries have the pass's own at their positions, as its holder has seen them, each once
pub record HasOwn {O E : Type 0} (p : PassState O E) (entries : List E) : Type 0 where
  pub once : AllPairs (λ i j. i ≢ j) p.own
  pub kept : All (λ i. (i < length p.seen) × (slice_get entries i ≡ slice_get p.seen i)) p.own
