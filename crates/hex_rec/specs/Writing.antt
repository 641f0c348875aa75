-- The text that is written.
use Rattle.std.specs.Prelude.{◌≡◌, ℕ, ◌-◌, ◌/◌, ◌%◌, List, [], ◌∷◌, ◌++◌, length, sum, nat_eq, if◌then◌else◌}
use Rattle.span_store.specs.ByteMap.{ByteMap}
use Rattle.span_store.specs.Extents.{Extent}
use Rattle.rec_text.specs.Cutting.{Cuts}
use Rattle.rec_text.specs.Spelling.{digits_of}

-- what makes the sum of all bytes of a line 0 modulo 256
abbrev pub checksum : List ℕ → ℕ
checksum bytes = (256 - sum bytes % 256) % 256

-- the line of a count, an offset, a kind and data
abbrev pub line_of : List ℕ → List ℕ
line_of bytes = (58 ∷ []) ++ (digits_of bytes ++ (digits_of (checksum bytes ∷ []) ++ (10 ∷ [])))

-- the line that makes a number the upper 16 bits of the addresses
abbrev pub base_line : ℕ → List ℕ
base_line upper = line_of (2 ∷ 0 ∷ 0 ∷ 4 ∷ upper / 256 ∷ upper % 256 ∷ [])

-- the data line of bytes at an address, behind a base line where the upper bits differ from those before
abbrev pub lines_at : ℕ → Extent → List ℕ
lines_at upper e =
    (if nat_eq (e.0 / 65536) upper then [] else base_line (e.0 / 65536))
    ++ line_of (length e.1 ∷ e.0 % 65536 / 256 ∷ e.0 % 256 ∷ 0 ∷ e.1)

-- the lines of some bytes after others
abbrev pub lines_of : ℕ → List Extent → List ℕ
lines_of upper [] = []
lines_of upper (e ∷ es) = lines_at upper e ++ lines_of (e.0 / 65536) es

-- how many addresses there are up to the next multiple of 65536
abbrev pub room : ℕ → ℕ
room at = 65536 - at % 65536

-- the bytes of the map in lines of at most 16 bytes that do not cross a multiple of 65536; then the end record
pub record IsWritten (m : ByteMap) (text : List ℕ) : Type 0 where
  pub lines : List Extent
  pub cuts : Cuts room m lines
  pub spelled : text ≡ lines_of 0 lines ++ line_of (0 ∷ 0 ∷ 0 ∷ 1 ∷ [])
