-- What a shelf and a sink in memory are.
use Rattle.std.specs.Prelude.{ℕ, List}

-- files by name, the numbers of the calls that fail, how many calls there were, and how many failed
pub record ShelfState : Type 0 where
  pub files : List (List ℕ × List ℕ)
  pub failing : List ℕ
  pub calls : ℕ
  pub faults : ℕ

-- what was written, the numbers of the calls that fail, how many calls there were, how many failed, and how many of these because memory ran out
pub record SinkState : Type 0 where
  pub written : List ℕ
  pub failing : List ℕ
  pub calls : ℕ
  pub faults : ℕ
  pub starved : ℕ
