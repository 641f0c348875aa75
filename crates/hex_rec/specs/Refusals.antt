-- Why an Intel HEX text is refused: the first line that is wrong, and what stands before it.
use Rattle.std.specs.Prelude.{◌≡◌, ◌≢◌, ℕ, ◌+◌, ◌*◌, ◌%◌, ◌<◌, true, List, [], ◌∷◌, ◌++◌, length, sum, slice_index, slice_get, Some, ◌⊎◌}
use Rattle.std.specs.FinMap.{get}
use Rattle.span_store.specs.ByteMap.{ByteMap}
use Rattle.span_store.specs.Lowest.{IsLowest}
use Rattle.rec_text.specs.Digits.{bytes_of}
use Rattle.rec_text.specs.Lines.{lines}
use Rattle.rec_text.specs.declared.fault.RecFault.{RecFault}
use Rattle.rec_text.specs.declared.fault.RecFault.TheVariants.{BadLine, BadSum, BadCount, AfterEnd, Conflict, NoEnd, NoMemory}
use Rattle.hex_rec.specs.Record.{is_record}
use Rattle.hex_rec.specs.HexText.{IsRecord, kind_of, AreRecords, AreEmpty, HasBase, address, Gives}
use Rattle.hex_rec.specs.declared.base.Base.{Base}

-- Nothing is wrong in these lines, and none is an end: their map is the union of what their data lines give.
pub record Stands (front : List (List ℕ)) (m : ByteMap) : Type 0 where
  pub records : AreRecords front
  pub given : (a b : ℕ) → get m a ≡ Some b → Gives front a b
  pub all : (a b : ℕ) → Gives front a b → get m a ≡ Some b

abbrev pub AreRight : List (List ℕ) → Type 0
AreRight front = (m : ByteMap) × Stands front m

-- the line spells bytes in the form of a record, whatever their sum
pub record HasForm (line bytes : List ℕ) : Type 0 where
  pub digits : List ℕ
  pub colon : line ≡ 58 ∷ digits
  pub spelled : bytes_of digits ≡ Some bytes
  pub form : is_record bytes ≡ true

-- a data line gives another byte than stands at an address
abbrev pub Differs : ByteMap → Base → List ℕ → ℕ → Type 0
Differs m base bytes a =
    (k : ℕ) × (b : ℕ) × (old : ℕ) × (k < slice_index bytes 0)
    × (a ≡ address base (slice_index bytes 1 * 256 + slice_index bytes 2) k)
    × (slice_get bytes (4 + k) ≡ Some b) × (get m a ≡ Some old) × (old ≢ b)

-- what is wrong with a line behind others
abbrev pub IsWrong : RecFault → List (List ℕ) → List ℕ → Type 0
IsWrong (BadLine n) front line = (n ≡ length front + 1) × AreRight front × (line ≢ [])
    × ((bytes : List ℕ) → HasForm line bytes → ⊥)
IsWrong (BadSum n) front line = (n ≡ length front + 1) × AreRight front
    × ((bytes : List ℕ) × HasForm line bytes × (sum bytes % 256 ≢ 0))
IsWrong (BadCount said seen) front line = ⊥
IsWrong (AfterEnd n) front line =
    (n ≡ length front + 1) × (line ≢ [])
    × ((early : List (List ℕ)) × (last : List ℕ) × (empty : List (List ℕ)) × (front ≡ early ++ last ∷ empty)
    × AreRight early
    × ((bytes : List ℕ) × IsRecord last bytes × (kind_of bytes ≡ 1)) × AreEmpty empty)
IsWrong (Conflict a) front line =
    (m : ByteMap) × Stands front m
    × ((bytes : List ℕ) × (base : Base) × IsRecord line bytes × (kind_of bytes ≡ 0) × HasBase front base
    × IsLowest (Differs m base bytes) (Some a))
IsWrong NoEnd front line = ⊥
IsWrong NoMemory front line = ⊥

-- the refusal of a text: no line is wrong and none is an end, or the first line that is wrong has it
abbrev pub IsRefused : List ℕ → RecFault → Type 0
IsRefused text fault =
    ((fault ≡ NoEnd) × AreRight (lines text))
    ⊎ ((front : List (List ℕ)) × (line : List ℕ) × (back : List (List ℕ))
    × (lines text ≡ front ++ line ∷ back) × IsWrong fault front line)
