-- A text of S-records and its bytes, as a whole.
use Rattle.std.specs.Prelude.{◌≡◌, ℕ, ◌+◌, ◌-◌, ◌%◌, ◌<◌, ◌≤◌, true, List, [], ◌∷◌, ◌++◌, sum, slice_get, Some, ◌⊎◌}
use Rattle.std.specs.FinMap.{get}
use Rattle.span_store.specs.ByteMap.{ByteMap}
use Rattle.rec_text.specs.Digits.{bytes_of}
use Rattle.rec_text.specs.Lines.{lines}
use Rattle.srec_rec.specs.Record.{is_record, width, number_at, size_of}

-- the kind that a line says, and the bytes that it spells
pub record IsRecord (line : List ℕ) (kind : ℕ) (bytes : List ℕ) : Type 0 where
  pub digits : List ℕ
  pub begins : line ≡ 83 ∷ (48 + kind) ∷ digits
  pub spelled : bytes_of digits ≡ Some bytes
  pub form : is_record kind bytes ≡ true
  pub checked : sum bytes % 256 ≡ 255

-- the line is a data record
abbrev pub IsData : List ℕ → Type 0
IsData line = (kind : ℕ) × (bytes : List ℕ) × IsRecord line kind bytes × (0 < kind) × (kind ≤ 3)

-- so many of the lines are data records
abbrev pub Counts : List (List ℕ) → ℕ → Type 0
Counts [] n = n ≡ 0
Counts (line ∷ more) n = (IsData line × (0 < n) × Counts more (n - 1)) ⊎ ((IsData line → ⊥) × Counts more n)

-- The line is empty, or a record that is no end; a count record says the number of the data records before it.
abbrev pub IsGood : List (List ℕ) → List ℕ → Type 0
IsGood before line =
    (line ≡ []) ⊎ ((kind : ℕ) × (bytes : List ℕ) × IsRecord line kind bytes × (kind ≤ 6)
    × (3 < kind → Counts before (number_at (width kind) bytes)))

abbrev pub AreRecords : List (List ℕ) → Type 0
AreRecords ls = (front : List (List ℕ)) (line : List ℕ) (back : List (List ℕ)) → ls ≡ front ++ line ∷ back
    → IsGood front line

abbrev pub AreEmpty : List (List ℕ) → Type 0
AreEmpty [] = Unit {0}
AreEmpty (line ∷ more) = (line ≡ []) × AreEmpty more

-- some data record gives this byte at this address
abbrev pub Gives : List (List ℕ) → ℕ → ℕ → Type 0
Gives ls a b =
    (front : List (List ℕ)) × (line : List ℕ) × (back : List (List ℕ)) × (kind : ℕ) × (bytes : List ℕ)
    × (k : ℕ)
    × (ls ≡ front ++ line ∷ back) × IsRecord line kind bytes × (0 < kind) × (kind ≤ 3)
    × (k < size_of (width kind) bytes)
    × (a ≡ number_at (width kind) bytes + k) × (slice_get bytes (width kind + 1 + k) ≡ Some b)

-- Records, one end, and nothing behind it; the map is the union of what the data records give.
pub record IsSrecText (text : List ℕ) (m : ByteMap) : Type 0 where
  pub front : List (List ℕ)
  pub last : List ℕ
  pub back : List (List ℕ)
  pub parts : lines text ≡ front ++ last ∷ back
  pub records : AreRecords front
  pub ends : (kind : ℕ) × (bytes : List ℕ) × IsRecord last kind bytes × (6 < kind)
  pub nothing : AreEmpty back
  pub given : (a b : ℕ) → get m a ≡ Some b → Gives front a b
  pub all : (a b : ℕ) → Gives front a b → get m a ≡ Some b
