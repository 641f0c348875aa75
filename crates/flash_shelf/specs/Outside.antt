-- What a read of a file and a write of text may answer.
use Rattle.std.specs.Prelude.{◌≡◌, ◌<◌, ◌≤◌, ◌+◌, ◌-◌, ◌^◌, ℕ, min, Bool, List, ◌++◌, length, take, Some, None, Result, Ok, Err, IsTrue, MatchBool, MatchOption}
use Rattle.flash_base.specs.Counts.{Rises}
use Rattle.flash_base.specs.Files.{first_of}
use Rattle.flash_shelf.specs.History.{ShelfHistory, SinkHistory}
use Rattle.flash_shelf.specs.declared.shelf.ShelfFault.{ShelfFault}
use Rattle.flash_shelf.specs.declared.shelf.ShelfFault.TheVariants.{Missing, TooLarge, Failed, NoMemory}
use Rattle.flash_shelf.specs.declared.sink.SinkFault.{SinkFault}

-- the most bytes of one file
abbrev pub limit : ℕ
limit = 67108864

-- What a read may answer. Where nothing is told of the files, each refusal but NoMemory is a fault.
abbrev pub CameFrom : Bool → List (List ℕ × List ℕ) → List ℕ → ℕ → ℕ → Result (List ℕ) ShelfFault → Type 0
CameFrom tells files name old new (Ok bytes) = (length bytes ≤ limit)
    × (IsTrue tells → first_of name files ≡ Some bytes)
CameFrom tells files name old new (Err Missing) = MatchBool tells (first_of name files ≡ None) (Rises old new)
CameFrom tells files name old new (Err TooLarge) =
    MatchBool tells (MatchOption (first_of name files) ⊥ (λ bytes. limit < length bytes)) (Rises old new)
CameFrom tells files name old new (Err Failed) = Rises old new
CameFrom tells files name old new (Err NoMemory) = Unit {0}

-- some first part of the bytes was put at the end
abbrev pub AddsPart : List ℕ → List ℕ → List ℕ → Type 0
AddsPart before after bytes = (k : ℕ) × (k ≤ length bytes) × (after ≡ before ++ take k bytes)

-- All the bytes, or a part of them after a fault.
abbrev pub WentTo : Bool → List ℕ → List ℕ → List ℕ → ℕ → ℕ → Result Unit SinkFault → Type 0
WentTo tells before after bytes old new (Ok x) = IsTrue tells → after ≡ before ++ bytes
WentTo tells before after bytes old new (Err e) = Rises old new × (IsTrue tells → AddsPart before after bytes)

-- the same between two times of a shelf and of a sink
abbrev pub Came : Bool → ShelfHistory → ShelfHistory → List ℕ → Result (List ℕ) ShelfFault → Type 0
Came tells old new name r = CameFrom tells old.contents name old.faults new.faults r

abbrev pub Went : Bool → SinkHistory → SinkHistory → List ℕ → Result Unit SinkFault → Type 0
Went tells old new bytes r = WentTo tells old.written new.written bytes old.faults new.faults r

-- a read failed by the outside in this time, and a write
abbrev pub ReadFailed : ShelfHistory → ShelfHistory → Type 0
ReadFailed old new = Rises old.faults new.faults

abbrev pub WriteFailed : SinkHistory → SinkHistory → Type 0
WriteFailed old new = Rises old.faults new.faults
