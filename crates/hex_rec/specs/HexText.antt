-- An Intel HEX text and its bytes, as a whole.
use Rattle.std.specs.Prelude.{◌≡◌, ◌≢◌, ℕ, ◌+◌, ◌*◌, ◌%◌, ◌^◌, ◌<◌, true, List, [], ◌∷◌, ◌++◌, sum, slice_index, slice_get, Some, ◌⊎◌}
use Rattle.std.specs.FinMap.{get}
use Rattle.span_store.specs.ByteMap.{ByteMap}
use Rattle.rec_text.specs.Lines.{lines}
use Rattle.rec_text.specs.Digits.{bytes_of}
use Rattle.hex_rec.specs.Record.{is_record}
use Rattle.hex_rec.specs.declared.base.Base.{Base}
use Rattle.hex_rec.specs.declared.base.Base.TheVariants.{Linear, Segment}

-- the bytes that a line spells: a count, an offset, a kind, that many bytes and a checksum
pub record IsRecord (line bytes : List ℕ) : Type 0 where
  pub digits : List ℕ
  pub colon : line ≡ 58 ∷ digits
  pub spelled : bytes_of digits ≡ Some bytes
  pub form : is_record bytes ≡ true
  pub checked : sum bytes % 256 ≡ 0

abbrev pub kind_of : List ℕ → ℕ
kind_of bytes = slice_index bytes 3

abbrev pub value_of : List ℕ → ℕ
value_of bytes = slice_index bytes 4 * 256 + slice_index bytes 5

-- every line is empty, or a record that is no end
abbrev pub AreRecords : List (List ℕ) → Type 0
AreRecords [] = Unit {0}
AreRecords (line ∷ more) = ((line ≡ []) ⊎ ((bytes : List ℕ) × IsRecord line bytes × (kind_of bytes ≢ 1)))
    × AreRecords more

abbrev pub AreEmpty : List (List ℕ) → Type 0
AreEmpty [] = Unit {0}
AreEmpty (line ∷ more) = (line ≡ []) × AreEmpty more

-- what a record makes the base
abbrev pub Sets : List ℕ → Base → Type 0
Sets bytes (Segment base) = (kind_of bytes ≡ 2) × (base ≡ value_of bytes * 16)
Sets bytes (Linear base) = (kind_of bytes ≡ 4) × (base ≡ value_of bytes * 65536)

-- no line sets the base
abbrev pub SetNone : List (List ℕ) → Type 0
SetNone [] = Unit {0}
SetNone (line ∷ more) = ((bytes : List ℕ) (base : Base) → IsRecord line bytes → Sets bytes base → ⊥)
    × SetNone more

-- the base behind these lines: that of the last line which sets it, or else linear 0
abbrev pub HasBase : List (List ℕ) → Base → Type 0
HasBase front base =
    (SetNone front × (base ≡ Linear 0))
    ⊎ ((early : List (List ℕ)) × (line : List ℕ) × (late : List (List ℕ)) × (bytes : List ℕ)
    × (front ≡ early ++ line ∷ late) × IsRecord line bytes × Sets bytes base × SetNone late)

-- where the byte at a position of a data line stands
abbrev pub address : Base → ℕ → ℕ → ℕ
address (Linear base) offset k = (base + offset + k) % 2 ^ 32
address (Segment base) offset k = base + (offset + k) % 2 ^ 16

-- some data line gives this byte at this address
abbrev pub Gives : List (List ℕ) → ℕ → ℕ → Type 0
Gives ls a b =
    (front : List (List ℕ)) × (line : List ℕ) × (back : List (List ℕ)) × (bytes : List ℕ) × (base : Base)
    × (k : ℕ)
    × (ls ≡ front ++ line ∷ back) × IsRecord line bytes × (kind_of bytes ≡ 0) × HasBase front base
    × (k < slice_index bytes 0)
    × (a ≡ address base (slice_index bytes 1 * 256 + slice_index bytes 2) k)
    × (slice_get bytes (4 + k) ≡ Some b)

-- Records, one end, and nothing behind it.
pub record HasShape (text : List ℕ) : Type 0 where
  pub front : List (List ℕ)
  pub last : List ℕ
  pub back : List (List ℕ)
  pub parts : lines text ≡ front ++ last ∷ back
  pub records : AreRecords front
  pub ends : (bytes : List ℕ) × IsRecord last bytes × (kind_of bytes ≡ 1)
  pub nothing : AreEmpty back

-- The text has that form, and the map is the union of what its data lines give.
pub record IsHexText (text : List ℕ) (m : ByteMap) : Type 0 where
  pub shape : HasShape text
  pub given : (a b : ℕ) → get m a ≡ Some b → Gives shape.front a b
  pub all : (a b : ℕ) → Gives shape.front a b → get m a ≡ Some b
