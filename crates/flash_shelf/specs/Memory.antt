-- What one call of a shelf or a sink in memory does.
use Rattle.std.specs.Prelude.{◌≡◌, ◌⊎◌, ℕ, ◌+◌, ◌-◌, ◌^◌, min, Bool, List, ◌++◌, length, nat_lt, ◌==◌, Option, Some, None, Result, Ok, Err, MatchBool, if◌then◌else◌}
use Rattle.std.specs.List.{list_any}
use Rattle.flash_base.specs.Files.{first_of}
use Rattle.flash_shelf.specs.declared.shelf.ShelfFault.{ShelfFault}
use Rattle.flash_shelf.specs.declared.shelf.ShelfFault.TheVariants.{Missing, TooLarge, Failed, NoMemory}
use Rattle.flash_shelf.specs.declared.sink.SinkFault.{SinkFault}
use Rattle.flash_shelf.specs.Outside.{limit}
use Rattle.flash_shelf.specs.States.{ShelfState, SinkState}
use Rattle.flash_base.specs.Counts.{one_more}

-- the call with this number is to fail
abbrev pub is_listed : List ℕ → ℕ → Bool
is_listed failing n = list_any (λ k. k == n) failing

abbrev pub checked : Option (List ℕ) → Result (List ℕ) ShelfFault
checked None = Err Missing
checked (Some bytes) = if nat_lt limit (length bytes) then Err TooLarge else Ok bytes

-- the file with this name, where there is one that is not too large
abbrev pub file_in : List (List ℕ × List ℕ) → List ℕ → Result (List ℕ) ShelfFault
file_in files name = checked (first_of name files)

abbrev pub after_read : ShelfState → ShelfState
after_read s =
    record s {
      calls = one_more s.calls;
      faults = if is_listed s.failing s.calls then one_more s.faults else s.faults;
    }

abbrev pub IsReadAnswer : ShelfState → List ℕ → Result (List ℕ) ShelfFault → Type 0
IsReadAnswer s name r =
    MatchBool (is_listed s.failing s.calls) (r ≡ Err Failed) ((r ≡ Err NoMemory) ⊎ (r ≡ file_in s.files name))

abbrev pub WritesAll : SinkState → List ℕ → SinkState → Result Unit SinkFault → Type 0
WritesAll s bytes new (Ok x) = new ≡ record s { written = s.written ++ bytes; calls = one_more s.calls }
WritesAll s bytes new (Err e) =
    new ≡ record s { calls = one_more s.calls; faults = one_more s.faults; starved = one_more s.starved }

abbrev pub IsRefusedWrite : SinkState → SinkState → Result Unit SinkFault → Type 0
IsRefusedWrite s new (Ok x) = ⊥
IsRefusedWrite s new (Err e) = new ≡ record s { calls = one_more s.calls; faults = one_more s.faults }

-- a listed call fails; any other writes all, or finds no memory
abbrev pub IsWriteAnswer : SinkState → List ℕ → SinkState → Result Unit SinkFault → Type 0
IsWriteAnswer s bytes new r =
    MatchBool (is_listed s.failing s.calls) (IsRefusedWrite s new r) (WritesAll s bytes new r)
