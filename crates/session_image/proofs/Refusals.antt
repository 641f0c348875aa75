-- What datablocks and checksums are refused for: never an overlap, and never want of memory.
use Rattle.std.proofs.Common.{◌==◌, zero, suc, ◌+◌, ℕ, List, [], ◌∷◌, length, cond, Bool, true, false, nat_lt, bytes_eq, Option, Some, None, Result, Ok, Err}
use Rattle.span_store.specs.ByteMap.{ByteMap}
use Rattle.rec_text.specs.declared.fault.RecFault.{RecFault}
use Rattle.ecu_mem.specs.declared.types.Block.{Block}
use Rattle.ecu_mem.specs.declared.types.Check.{Check}
use Rattle.ecu_mem.specs.declared.types.EcuMem.{EcuMem}
use Rattle.ecu_mem.specs.declared.types.Flash.{Flash}
use Rattle.ecu_mem.specs.declared.types.Format.{Format}
use Rattle.ecu_mem.specs.declared.types.Format.TheVariants.{IntelHex, MotorolaS, Binary, UserDefined}
use Rattle.ecu_mem.specs.declared.types.Source.{Source}
use Rattle.ecu_mem.specs.declared.types.Source.TheVariants.{Inside, File}
use Rattle.hex_rec.specs.Reading.{reading_of as hex_map}
use Rattle.srec_rec.specs.Reading.{reading_of as srec_map}
use Rattle.text_forms.specs.Bytes.{bytes_text}
use Rattle.session_image.specs.Checks.{check_bytes, value_by, compared, checked, all_checked}
use Rattle.session_image.specs.Content.{text_of, mapped, decoded, binary, read_as, content}
use Rattle.session_image.specs.Files.{flash_of}
use Rattle.session_image.specs.Pieces.{◌>>=◌, size_limit, ranges, total, with_byte, or_fill, filled, byte_of, bodies, is_outside, moved, has_its_size, some_ranges, block_pieces, own_pieces, size_of, all_pieces, session_pieces}
use Rattle.session_image.specs.declared.content.Content.{Content}
use Rattle.session_image.specs.declared.content.Content.TheVariants.{Mapped, Plain}
use Rattle.session_image.specs.declared.pieces.Piece.{Piece}
use Rattle.session_image.specs.declared.types.ImageFault.{ImageFault}
use Rattle.session_image.specs.declared.types.ImageFault.TheVariants.{Overlap, NoMemory}

abbrev pub IsOwn : ImageFault → Type 0
IsOwn (Overlap at) = ⊥
IsOwn NoMemory = ⊥
IsOwn e = Unit {0}

abbrev pub OnlyOwn : {A : Type 0} → Result A ImageFault → Type 0
OnlyOwn (Ok x) = Unit {0}
OnlyOwn (Err e) = IsOwn e

then_own : {A B : Type 0} (r : Result A ImageFault) (f : A → Result B ImageFault) → OnlyOwn r → ((x : A) → OnlyOwn (f x)) → OnlyOwn (r >>= f)
then_own (Ok x) f h k = k x
then_own (Err e) f h k = h

either_own : {A : Type 0} (t : Bool) (r s : Result A ImageFault) → OnlyOwn r → OnlyOwn s → OnlyOwn (cond t r s)
either_own true r s h k = h
either_own false r s h k = k

mapped_own : (id : List ℕ) (r : Result ByteMap RecFault) → OnlyOwn (mapped id r)
mapped_own id (Ok m) = tt
mapped_own id (Err e) = tt

decoded_own : (id : List ℕ) (o : Option (List ℕ)) → OnlyOwn (decoded id o)
decoded_own id None = tt
decoded_own id (Some bytes) = tt

binary_own : (files : List (List ℕ × List ℕ)) (id : List ℕ) (s : Source) → OnlyOwn (binary files id s)
binary_own files id (Inside text) = decoded_own id (bytes_text text)
binary_own files id (File name) = tt

read_own : (files : List (List ℕ × List ℕ)) (f : Flash) (format : Format) → OnlyOwn (read_as files f format)
read_own files f IntelHex = mapped_own f.id (hex_map (text_of files f.source))
read_own files f MotorolaS = mapped_own f.id (srec_map (text_of files f.source))
read_own files f Binary = binary_own files f.id f.source
read_own files f UserDefined = tt

content_own : (files : List (List ℕ × List ℕ)) (f : Flash) → OnlyOwn (content files f)
content_own files f = either_own f.plain _ _ (read_own files f f.format) tt

byte_own : (number a : ℕ) (o : Option ℕ) (rest : Result (List ℕ) ImageFault) → OnlyOwn rest → OnlyOwn (with_byte number a o rest)
byte_own number a None rest h = tt
byte_own number a (Some x) rest h = then_own rest (λ xs. Ok (x ∷ xs)) h (λ xs. tt)

filled_own : (number : ℕ) (look : ℕ → Option ℕ) (fill : Option ℕ) (a n : ℕ) → OnlyOwn (filled number look fill a n)
filled_own number look fill a zero = tt
filled_own number look fill a (suc n) = byte_own number a (or_fill (look a) fill) (filled number look fill (a + 1) n) (filled_own number look fill (a + 1) n)

bodies_own : (c : Content) (fs : List (ℕ × ℕ)) (fill : Option ℕ) (number before : ℕ) (rs : List (ℕ × ℕ)) → OnlyOwn (bodies c fs fill number before rs)
bodies_own c fs fill number before [] = tt
bodies_own c fs fill number before (r ∷ rs) =
    then_own (filled number (byte_of c fs r.0 before) fill r.0 r.1) (λ body. bodies c fs fill (number + 1) (before + r.1) rs >>= λ rest. Ok ((r.0, body) ∷ rest))
    (filled_own number (byte_of c fs r.0 before) fill r.0 r.1)
    (λ body. then_own (bodies c fs fill (number + 1) (before + r.1) rs) (λ rest. Ok ((r.0, body) ∷ rest)) (bodies_own c fs fill (number + 1) (before + r.1) rs) (λ rest. tt))

moved_own : (b : Block) (number : ℕ) (ss : List (ℕ × List ℕ)) → OnlyOwn (moved b number ss)
moved_own b number [] = tt
moved_own b number (s ∷ ss) = either_own (is_outside b s.0 (length s.1)) _ _ tt (then_own (moved b (number + 1) ss) _ (moved_own b (number + 1) ss) (λ rest. tt))

size_own : (c : Content) (b : Block) (said : ℕ) → OnlyOwn (has_its_size c b said)
size_own (Mapped m) b said = tt
size_own (Plain bytes) b said = either_own (length bytes == said) _ _ tt tt

some_own : (b : Block) (rs : List (ℕ × ℕ)) → OnlyOwn (some_ranges b rs)
some_own b [] = tt
some_own b (r ∷ rs) = tt

own_own : (fill : Option ℕ) (number size : ℕ) (b : Block) (c : Content) → OnlyOwn (own_pieces fill number size b c)
own_own fill number size b c =
    then_own (some_ranges b (ranges c b)) _ (some_own b (ranges c b)) (λ rs.
    either_own (nat_lt size_limit (size + total rs)) _ _ tt
    (then_own (has_its_size c b (total rs)) _ (size_own c b (total rs)) (λ c. then_own (bodies c b.filters fill number 0 rs) (moved b number) (bodies_own c b.filters fill number 0 rs) (moved_own b number))))

block_own : (m : EcuMem) (files : List (List ℕ × List ℕ)) (fill : Option ℕ) (number size : ℕ) (b : Block) → OnlyOwn (block_pieces m files fill number size b)
block_own m files fill number size b = then_own (content files (flash_of m b)) (own_pieces fill number size b) (content_own files (flash_of m b)) (own_own fill number size b)

all_own : (m : EcuMem) (files : List (List ℕ × List ℕ)) (fill : Option ℕ) (number size : ℕ) (bs : List Block) → OnlyOwn (all_pieces m files fill number size bs)
all_own m files fill number size [] = tt
all_own m files fill number size (b ∷ bs) =
    then_own (block_pieces m files fill number size b) _ (block_own m files fill number size b) (λ ps.
    then_own (all_pieces m files fill (number + length ps) (size + size_of ps) bs) _ (all_own m files fill (number + length ps) (size + size_of ps) bs) (λ rest. tt))

pub session_own : (m : EcuMem) (files : List (List ℕ × List ℕ)) (fill : Option ℕ) (bs : List Block) → OnlyOwn (session_pieces m files fill bs)
session_own m files fill [] = tt
session_own m files fill (b ∷ bs) = all_own m files fill 0 0 (b ∷ bs)

-- ------ checksums
compared_own : (c : Check) (o : Option (List ℕ)) → OnlyOwn (compared c o)
compared_own c None = tt
compared_own c (Some got) = either_own (bytes_eq c.result got) _ _ tt tt

pub checks_own : (ps : List Piece) (cs : List Check) → OnlyOwn (all_checked ps cs)
checks_own ps [] = tt
checks_own ps (c ∷ cs) =
    then_own (checked ps c) _ (either_own (nat_lt size_limit c.size) _ _ tt (compared_own c (value_by c.alg (check_bytes ps c.fill c.from c.size)))) (λ x.
    then_own (all_checked ps cs) _ (checks_own ps cs) (λ xs. tt))
