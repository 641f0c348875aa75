-- The segments of a session with their bytes.
use Rattle.std.specs.Prelude.{◌≡◌, ℕ, zero, suc, ◌+◌, ◌-◌, ◌<◌, ◌≤◌, ◌==◌, nat_lt, Bool, List, [], ◌∷◌, ◌++◌, length, slice_get, Option, Some, None, Result, Ok, Err, if◌then◌else◌}
use Rattle.std.specs.FinMap.{get, retain_keys}
use Rattle.span_store.specs.ByteMap.{ByteMap, top}
use Rattle.span_store.specs.Runs.{runs}
use Rattle.ecu_mem.specs.declared.types.Block.{Block}
use Rattle.ecu_mem.specs.declared.types.EcuMem.{EcuMem}
use Rattle.flash_plan.specs.declared.unit.Segment.{Segment}
use Rattle.session_image.specs.Content.{content, is_kept}
use Rattle.session_image.specs.Files.{flash_of}
use Rattle.session_image.specs.declared.content.Content.{Content}
use Rattle.session_image.specs.declared.content.Content.TheVariants.{Mapped, Plain}
use Rattle.session_image.specs.declared.pieces.Piece.{Piece}
use Rattle.session_image.specs.declared.types.ImageFault.{ImageFault}
use Rattle.session_image.specs.declared.types.ImageFault.TheVariants.{NoSegment, TooLarge, BinarySize, Hole, OutOfRange}

infixl 10 ◌>>=◌
abbrev pub ◌>>=◌ : {A B : Type 0} → Result A ImageFault → (A → Result B ImageFault) → Result B ImageFault
Ok x >>= f = f x
Err e >>= f = Err e

-- the most bytes of a session, and of a checksum's range
abbrev pub size_limit : ℕ
size_limit = 16777216

-- ------ which ranges
abbrev pub or_runs : ByteMap → List (ℕ × ℕ) → List (ℕ × ℕ)
or_runs m [] = runs m
or_runs m (r ∷ rs) = r ∷ rs

-- the listed segments; without any, the maximal runs of kept addresses, of which plain bytes have none
abbrev pub ranges : Content → Block → List (ℕ × ℕ)
ranges (Mapped m) b = or_runs (retain_keys m (is_kept b.filters)) b.segments
ranges (Plain bytes) b = b.segments

abbrev pub total : List (ℕ × ℕ) → ℕ
total [] = 0
total (r ∷ rs) = r.1 + total rs

-- ------ their bytes
abbrev pub if_kept : List (ℕ × ℕ) → ℕ → Option ℕ → Option ℕ
if_kept filters a o = if is_kept filters a then o else None

-- the byte at a source address of a segment that begins at `at`, before whose bytes so many stand in the data
abbrev pub byte_of : Content → List (ℕ × ℕ) → ℕ → ℕ → ℕ → Option ℕ
byte_of (Mapped m) filters at before a = if_kept filters a (get m a)
byte_of (Plain bytes) filters at before a = if_kept filters a (slice_get bytes (before + (a - at)))

abbrev pub or_fill : Option ℕ → Option ℕ → Option ℕ
or_fill (Some x) fill = Some x
or_fill None fill = fill

abbrev pub with_byte : ℕ → ℕ → Option ℕ → Result (List ℕ) ImageFault → Result (List ℕ) ImageFault
with_byte number a None rest = Err (Hole number a)
with_byte number a (Some x) rest = rest >>= λ xs. Ok (x ∷ xs)

-- the bytes of a range, or its lowest hole
abbrev pub filled : ℕ → (ℕ → Option ℕ) → Option ℕ → ℕ → ℕ → Result (List ℕ) ImageFault
filled number look fill a zero = Ok []
filled number look fill a (suc n) =
    with_byte number a (or_fill (look a) fill) (filled number look fill (a + 1) n)

-- the ranges with their bytes; the first is segment `number`, and so many bytes of the data stand before it
abbrev pub bodies : Content → List (ℕ × ℕ) → Option ℕ → ℕ → ℕ → List (ℕ × ℕ)
    → Result (List (ℕ × List ℕ)) ImageFault
bodies c filters fill number before [] = Ok []
bodies c filters fill number before (r ∷ rs) =
    filled number (byte_of c filters r.0 before) fill r.0 r.1
    >>= λ body. bodies c filters fill (number + 1) (before + r.1) rs >>= λ rest. Ok ((r.0, body) ∷ rest)

-- ------ where they go
abbrev pub is_outside : Block → ℕ → ℕ → Bool
is_outside b at size = if b.down then nat_lt at b.offset else nat_lt top (at + b.offset + size)

abbrev pub target_of : Block → ℕ → ℕ
target_of b at = if b.down then at - b.offset else at + b.offset

abbrev pub moved : Block → ℕ → List (ℕ × List ℕ) → Result (List Piece) ImageFault
moved b number [] = Ok []
moved b number (s ∷ ss) =
    if is_outside b s.0 (length s.1) then Err (OutOfRange number)
    else moved b (number + 1) ss >>= λ rest. Ok
    (record { source = s.0; target = target_of b s.0; body = s.1 } ∷ rest)

-- ------ one datablock
-- plain bytes are as many as the segments say
abbrev pub has_its_size : Content → Block → ℕ → Result Content ImageFault
has_its_size (Mapped m) b said = Ok (Mapped m)
has_its_size (Plain bytes) b said =
    if length bytes == said then Ok (Plain bytes) else Err (BinarySize b.id said (length bytes))

abbrev pub some_ranges : Block → List (ℕ × ℕ) → Result (List (ℕ × ℕ)) ImageFault
some_ranges b [] = Err (NoSegment b.id)
some_ranges b (r ∷ rs) = Ok (r ∷ rs)

-- its segments, from its data; so many segments and bytes of the session stand before them
abbrev pub own_pieces : Option ℕ → ℕ → ℕ → Block → Content → Result (List Piece) ImageFault
own_pieces fill number size b c =
    some_ranges b (ranges c b) >>= λ rs.
    if nat_lt size_limit (size + total rs) then Err TooLarge
    else has_its_size c b (total rs) >>= λ c. bodies c b.filters fill number 0 rs >>= moved b number

-- its segments
abbrev pub block_pieces : EcuMem → List (List ℕ × List ℕ) → Option ℕ → ℕ → ℕ → Block
    → Result (List Piece) ImageFault
block_pieces m files fill number size b = content files (flash_of m b) >>= own_pieces fill number size b

abbrev pub size_of : List Piece → ℕ
size_of [] = 0
size_of (p ∷ ps) = length p.body + size_of ps

-- all datablocks of a list, behind so many segments and bytes
abbrev pub all_pieces : EcuMem → List (List ℕ × List ℕ) → Option ℕ → ℕ → ℕ → List Block
    → Result (List Piece) ImageFault
all_pieces m files fill number size [] = Ok []
all_pieces m files fill number size (b ∷ bs) =
    block_pieces m files fill number size b >>= λ ps.
    all_pieces m files fill (number + length ps) (size + size_of ps) bs >>= λ rest. Ok (ps ++ rest)

-- a session without datablocks has no segment
abbrev pub session_pieces : EcuMem → List (List ℕ × List ℕ) → Option ℕ → List Block
    → Result (List Piece) ImageFault
session_pieces m files fill [] = Err (NoSegment [])
session_pieces m files fill (b ∷ bs) = all_pieces m files fill 0 0 (b ∷ bs)

-- ------ shared addresses
abbrev pub has_target : Piece → ℕ → Type 0
has_target p a = (p.target ≤ a) × (a < p.target + length p.body)

-- two segments of different numbers have the target address
abbrev pub IsShared : List Piece → ℕ → Type 0
IsShared ps a = (i : ℕ) × (j : ℕ) × (p : Piece) × (q : Piece) × (i < j) × (slice_get ps i ≡ Some p)
    × (slice_get ps j ≡ Some q) × has_target p a × has_target q a

abbrev pub segments_of : List Piece → List Segment
segments_of [] = []
segments_of (p ∷ ps) = record { at = p.target; body = p.body } ∷ segments_of ps
