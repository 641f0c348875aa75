-- The text that is written.
use Rattle.std.specs.Prelude.{◌≡◌, ℕ, ◌+◌, ◌-◌, ◌/◌, ◌%◌, ◌^◌, List, [], ◌∷◌, ◌++◌, length, sum}
use Rattle.span_store.specs.ByteMap.{ByteMap}
use Rattle.span_store.specs.Extents.{Extent}
use Rattle.rec_text.specs.Cutting.{Cuts}
use Rattle.rec_text.specs.Spelling.{digits_of}

-- the complement of the low byte of the sum
abbrev pub checksum : List ℕ → ℕ
checksum bytes = 255 - sum bytes % 256

-- the line of a kind, a count, an address and data
abbrev pub line_of : ℕ → List ℕ → List ℕ
line_of kind bytes = (83 ∷ (48 + kind) ∷ [])
    ++ (digits_of bytes ++ (digits_of (checksum bytes ∷ []) ++ (10 ∷ [])))

-- the data line of bytes at an address
abbrev pub data_line : Extent → List ℕ
data_line e =
    line_of 3 ((length e.1 + 5) ∷ e.0 / 16777216 ∷ e.0 / 65536 % 256 ∷ e.0 / 256 % 256 ∷ e.0 % 256 ∷ e.1)

abbrev pub lines_of : List Extent → List ℕ
lines_of [] = []
lines_of (e ∷ es) = data_line e ++ lines_of es

-- a header without text, the bytes of the map in lines of at most 16 bytes for each maximal run, an end
pub record IsWritten (m : ByteMap) (text : List ℕ) : Type 0 where
  pub lines : List Extent
  pub cuts : Cuts (λ a. 2 ^ 32 - a) m lines
  pub spelled : text ≡ line_of 0 (3 ∷ 0 ∷ 0 ∷ []) ++ (lines_of lines ++ line_of 7 (5 ∷ 0 ∷ 0 ∷ 0 ∷ 0 ∷ []))
