-- Files that are read by their names.
use Rattle.std.specs.Prelude.{◌≡◌, ◌≤◌, ℕ, Bool, List, [], ◌∷◌, Result, Ok, Err}
use Rattle.flash_shelf.specs.Memory.{file_in}
use Rattle.flash_shelf.specs.Outside.{CameFrom}
use Rattle.flash_shelf.specs.declared.shelf.ShelfFault.{ShelfFault}
use Rattle.flash_shelf.specs.declared.shelf.ShelfFault.TheVariants as shelf
use Rattle.plan_build.specs.Answers.{just, ◌>>=◌}
use Rattle.plan_build.specs.declared.fault.BuildFault.{BuildFault}
use Rattle.plan_build.specs.declared.fault.BuildFault.TheVariants.{Shelf, NoMemory}
use Rattle.flash_shelf.specs.History.{ShelfHistory}

-- ------ what a read of a name may answer
-- told files: the first with the name, if it is not too large
abbrev pub is_told : List (List ℕ × List ℕ) → List ℕ → Result (List ℕ) ShelfFault → Type 0
is_told files name answer = answer ≡ file_in files name

-- a time in which a shelf is read: whether it tells its files, which they are, and its count of faults before and after
pub record Period : Type 0 where
  pub tells : Bool
  pub files : List (List ℕ × List ℕ)
  pub before : ℕ
  pub after : ℕ

abbrev pub period : Bool → List (List ℕ × List ℕ) → ℕ → ℕ → Period
period tells files before after = record { tells = tells; files = files; before = before; after = after }

-- what a shelf may answer in this time
abbrev pub came : Period → List ℕ → Result (List ℕ) ShelfFault → Type 0
came p name answer = CameFrom p.tells p.files name p.before p.after answer

-- calls between these counts, which leave the files as they are, lie in the time
pub record Lies (p : Period) (told : Bool) (contents : List (List ℕ × List ℕ)) (old new : ℕ) : Type 0 where
  pub tells : p.tells ≡ told
  pub files : contents ≡ p.files
  pub begins : p.before ≤ old
  pub ends : new ≤ p.after

-- ------ one file, and several in order
abbrev pub of_answer : List ℕ → Result (List ℕ) ShelfFault → Result (List ℕ) BuildFault
of_answer name (Ok bytes) = Ok bytes
of_answer name (Err shelf.Missing) = Err (Shelf name shelf.Missing)
of_answer name (Err shelf.TooLarge) = Err (Shelf name shelf.TooLarge)
of_answer name (Err shelf.Failed) = Err (Shelf name shelf.Failed)
of_answer name (Err shelf.NoMemory) = Err NoMemory

-- what follows from what a read answers
pub record Fetched (read : List ℕ → Result (List ℕ) ShelfFault → Type 0) (name : List ℕ)
    (r : Result (List ℕ) BuildFault) : Type 0 where
  pub answer : Result (List ℕ) ShelfFault
  pub given : read name answer
  pub is : r ≡ of_answer name answer

abbrev pub fetched : (List ℕ → Result (List ℕ) ShelfFault → Type 0) → List ℕ → Result (List ℕ) BuildFault
    → Type 0
fetched read name r = Fetched read name r

-- the files with these names
abbrev pub all_fetched : (List ℕ → Result (List ℕ) ShelfFault → Type 0) → List (List ℕ)
    → Result (List (List ℕ × List ℕ)) BuildFault → Type 0
all_fetched read [] = just (Ok [])
all_fetched read (name ∷ names) = fetched read name >>= λ bytes. all_fetched read names
    >>= λ rest. just (Ok ((name, bytes) ∷ rest))

-- calls between these two times of a shelf lie in the time
abbrev pub LiesIn : Period → Bool → ShelfHistory → ShelfHistory → Type 0
LiesIn p tells old new = Lies p tells old.contents old.faults new.faults

-- the time between these two of a shelf
abbrev pub between : Bool → ShelfHistory → ShelfHistory → Period
between tells old new = period tells old.contents old.faults new.faults
