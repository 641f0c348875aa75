-- What a shelf and a sink are known to be at one time.
use Rattle.std.specs.Prelude.{ℕ, List}

-- the files by name, the first of a name counting, and how many reads failed by the outside
pub record ShelfHistory : Type 0 where
  pub contents : List (List ℕ × List ℕ)
  pub faults : ℕ

-- what was written so far, and how many writes failed
pub record SinkHistory : Type 0 where
  pub written : List ℕ
  pub faults : ℕ
