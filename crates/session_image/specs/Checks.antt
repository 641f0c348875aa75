-- The checksums of a session.
use Rattle.std.specs.Prelude.{ℕ, zero, suc, ◌+◌, ◌-◌, ◌%◌, nat_lt, true, false, List, [], ◌∷◌, length, codes, bytes_eq, sum, slice_get, Option, Some, None, Result, Ok, Err, if◌then◌else◌}
use Rattle.sha2.specs.Sha256.{sha256}
use Rattle.flash_base.specs.ByteMaps.{is_in}
use Rattle.flash_base.specs.Numbers.{big_endian}
use Rattle.ecu_mem.specs.declared.types.Check.{Check}
use Rattle.session_image.specs.Pieces.{◌>>=◌, size_limit}
use Rattle.session_image.specs.declared.pieces.Piece.{Piece}
use Rattle.session_image.specs.declared.types.Checked.{Checked}
use Rattle.session_image.specs.declared.types.ImageFault.{ImageFault}
use Rattle.session_image.specs.declared.types.ImageFault.TheVariants.{TooLarge, ChecksumDiffers}

-- the byte of the first segment that has the source address
abbrev pub source_byte : List Piece → ℕ → Option ℕ
source_byte [] a = None
source_byte (p ∷ ps) a =
    if is_in p.source (length p.body) a then slice_get p.body (a - p.source) else source_byte ps a

abbrev pub or_byte : Option ℕ → ℕ → ℕ
or_byte None x = x
or_byte (Some y) x = y

-- FF where nothing else is said
abbrev pub check_byte : List Piece → Option ℕ → ℕ → ℕ
check_byte ps fill a = or_byte (source_byte ps a) (or_byte fill 255)

-- the bytes of a range in ascending order
abbrev pub check_bytes : List Piece → Option ℕ → ℕ → ℕ → List ℕ
check_bytes ps fill a zero = []
check_bytes ps fill a (suc n) = check_byte ps fill a ∷ check_bytes ps fill (a + 1) n

-- the value by the algorithm of this name, if it is one of ours
abbrev pub value_by : List ℕ → List ℕ → Option (List ℕ)
value_by alg bytes =
    if bytes_eq alg (codes "SHA-256") then Some (sha256 bytes)
    else if bytes_eq alg (codes "SUM-16") then Some (big_endian 2 (sum bytes % 65536))
    else None

abbrev pub compared : Check → Option (List ℕ) → Result Checked ImageFault
compared c None = Ok (record { name = c.name; done = false })
compared c (Some got) = if bytes_eq c.result got then Ok (record { name = c.name; done = true })
    else Err (ChecksumDiffers c.name c.result got)

abbrev pub checked : List Piece → Check → Result Checked ImageFault
checked ps c = if nat_lt size_limit c.size then Err TooLarge
    else compared c (value_by c.alg (check_bytes ps c.fill c.from c.size))

abbrev pub all_checked : List Piece → List Check → Result (List Checked) ImageFault
all_checked ps [] = Ok []
all_checked ps (c ∷ cs) = checked ps c >>= λ x. all_checked ps cs >>= λ xs. Ok (x ∷ xs)
