-- Why a text of S-records is refused: the first line that is wrong, and what stands before it.
use Rattle.std.specs.Prelude.{◌≡◌, ◌≢◌, ℕ, ◌+◌, ◌%◌, ◌<◌, ◌≤◌, true, List, [], ◌∷◌, ◌++◌, length, sum, slice_get, Some, ◌⊎◌}
use Rattle.std.specs.FinMap.{get}
use Rattle.span_store.specs.ByteMap.{ByteMap}
use Rattle.span_store.specs.Lowest.{IsLowest}
use Rattle.rec_text.specs.Digits.{bytes_of}
use Rattle.rec_text.specs.Lines.{lines}
use Rattle.rec_text.specs.declared.fault.RecFault.{RecFault}
use Rattle.rec_text.specs.declared.fault.RecFault.TheVariants.{BadLine, BadSum, BadCount, AfterEnd, Conflict, NoEnd, NoMemory}
use Rattle.srec_rec.specs.Record.{is_record, width, number_at, size_of}
use Rattle.srec_rec.specs.SrecText.{IsRecord, Counts, AreRecords, AreEmpty, Gives}

-- Nothing is wrong in these lines, and none is an end: their map is the union of what their data records give.
pub record Stands (front : List (List ℕ)) (m : ByteMap) : Type 0 where
  pub records : AreRecords front
  pub given : (a b : ℕ) → get m a ≡ Some b → Gives front a b
  pub all : (a b : ℕ) → Gives front a b → get m a ≡ Some b

abbrev pub AreRight : List (List ℕ) → Type 0
AreRight front = (m : ByteMap) × Stands front m

-- the line has the form of a record, whatever its checksum
pub record HasForm (line : List ℕ) (kind : ℕ) (bytes : List ℕ) : Type 0 where
  pub digits : List ℕ
  pub begins : line ≡ 83 ∷ (48 + kind) ∷ digits
  pub spelled : bytes_of digits ≡ Some bytes
  pub form : is_record kind bytes ≡ true

-- a data record gives another byte than stands at an address
abbrev pub Differs : ByteMap → ℕ → List ℕ → ℕ → Type 0
Differs m kind bytes a =
    (k : ℕ) × (b : ℕ) × (old : ℕ) × (k < size_of (width kind) bytes) × (a ≡ number_at (width kind) bytes + k)
    × (slice_get bytes (width kind + 1 + k) ≡ Some b) × (get m a ≡ Some old) × (old ≢ b)

-- what is wrong with a line behind others
abbrev pub IsWrong : RecFault → List (List ℕ) → List ℕ → Type 0
IsWrong (BadLine n) front line = (n ≡ length front + 1) × AreRight front × (line ≢ [])
    × ((kind : ℕ) (bytes : List ℕ) → HasForm line kind bytes → ⊥)
IsWrong (BadSum n) front line = (n ≡ length front + 1) × AreRight front
    × ((kind : ℕ) × (bytes : List ℕ) × HasForm line kind bytes × (sum bytes % 256 ≢ 255))
IsWrong (BadCount said seen) front line =
    AreRight front × ((kind : ℕ) × (bytes : List ℕ) × IsRecord line kind bytes × (3 < kind) × (kind ≤ 6)
    × (said ≡ number_at (width kind) bytes) × Counts front seen × (said ≢ seen))
IsWrong (AfterEnd n) front line =
    (n ≡ length front + 1) × (line ≢ [])
    × ((early : List (List ℕ)) × (last : List ℕ) × (empty : List (List ℕ)) × (front ≡ early ++ last ∷ empty)
    × AreRight early
    × ((kind : ℕ) × (bytes : List ℕ) × IsRecord last kind bytes × (6 < kind)) × AreEmpty empty)
IsWrong (Conflict a) front line =
    (m : ByteMap) × Stands front m ×
    ((kind : ℕ) × (bytes : List ℕ) × IsRecord line kind bytes × (0 < kind) × (kind ≤ 3)
    × IsLowest (Differs m kind bytes) (Some a))
IsWrong NoEnd front line = ⊥
IsWrong NoMemory front line = ⊥

-- the refusal of a text: no line is wrong and none is an end, or the first line that is wrong has it
abbrev pub IsRefused : List ℕ → RecFault → Type 0
IsRefused text fault =
    ((fault ≡ NoEnd) × AreRight (lines text))
    ⊎ ((front : List (List ℕ)) × (line : List ℕ) × (back : List (List ℕ))
    × (lines text ≡ front ++ line ∷ back) × IsWrong fault front line)
