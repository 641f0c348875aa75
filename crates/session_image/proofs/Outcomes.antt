-- What a datablock gives, step after step.
use Rattle.std.proofs.Common.{◌≡◌, ◌∙◌, sym, refl, ap, zero, suc, ◌+◌, ◌<◌, ◌≤◌, ℕ, List, [], ◌∷◌, length, arith, subst, Bool, true, false, ◌==◌, Option, Result, Ok, Err, nat_lt, cond}
use Rattle.std.proofs.lemmas.Bool.Decides.{nat_tests}
use Rattle.std.proofs.lemmas.Bool.{lt-ltb, le-ltb, false≢true}
use Rattle.flash_base.specs.Lists.{Each}
use Rattle.ecu_mem.specs.Bounds.{IsRange}
use Rattle.ecu_mem.specs.declared.types.Block.{Block}
use Rattle.ecu_mem.specs.declared.types.EcuMem.{EcuMem}
use Rattle.session_image.specs.Content.{content}
use Rattle.session_image.specs.Files.{flash_of}
use Rattle.session_image.specs.Kept.{HasRoom}
use Rattle.session_image.specs.Pieces.{◌>>=◌, size_limit, total, ranges, bodies, has_its_size, some_ranges, moved, own_pieces, block_pieces}
use Rattle.session_image.specs.declared.content.Content.{Content}
use Rattle.session_image.specs.declared.content.Content.TheVariants.{Mapped, Plain}
use Rattle.session_image.specs.declared.pieces.Piece.{Piece}
use Rattle.session_image.specs.declared.types.ImageFault.{ImageFault}
use Rattle.session_image.specs.declared.types.ImageFault.TheVariants.{NoSegment, TooLarge, BinarySize}

-- the rest once the size is known to fit
abbrev pub sized_pieces : Option ℕ → ℕ → Block → Content → List (ℕ × ℕ) → Result (List Piece) ImageFault
sized_pieces fill number b c rs = has_its_size c b (total rs) >>= λ c. bodies c b.filters fill number 0 rs >>= moved b number

abbrev pub range_pieces : Option ℕ → ℕ → ℕ → Block → Content → List (ℕ × ℕ) → Result (List Piece) ImageFault
range_pieces fill number size b c rs = cond (nat_lt size_limit (size + total rs)) (Err TooLarge) (sized_pieces fill number b c rs)

pub no_range : (fill : Option ℕ) (number size : ℕ) (b : Block) (c : Content) → ranges c b ≡ [] → own_pieces fill number size b c ≡ Err (NoSegment b.id)
no_range fill number size b c is = ap (λ rs. some_ranges b rs >>= range_pieces fill number size b c) is

some_range : (b : Block) (rs : List (ℕ × ℕ)) (f : List (ℕ × ℕ) → Result (List Piece) ImageFault) → 1 ≤ length rs → (some_ranges b rs >>= f) ≡ f rs
some_range b [] f h = absurd (omega arith)
some_range b (r ∷ rs) f h = refl

ranged : (fill : Option ℕ) (number size : ℕ) (b : Block) (c : Content) (rs : List (ℕ × ℕ)) → rs ≡ ranges c b → 1 ≤ length rs → own_pieces fill number size b c ≡ range_pieces fill number size b c rs
ranged fill number size b c rs is some = ap (λ l. some_ranges b l >>= range_pieces fill number size b c) (sym is) ∙ some_range b rs (range_pieces fill number size b c) some

pub too_large : (fill : Option ℕ) (number size : ℕ) (b : Block) (c : Content) (rs : List (ℕ × ℕ)) → rs ≡ ranges c b → 1 ≤ length rs → size_limit < size + total rs → own_pieces fill number size b c ≡ Err TooLarge
too_large fill number size b c rs is some over =
    ranged fill number size b c rs is some ∙ ap (λ t. cond t (Err TooLarge) (sized_pieces fill number b c rs)) (lt-ltb size_limit (size + total rs) over)

fitting : (fill : Option ℕ) (number size : ℕ) (b : Block) (c : Content) (rs : List (ℕ × ℕ)) → rs ≡ ranges c b → 1 ≤ length rs → size + total rs ≤ size_limit → own_pieces fill number size b c ≡ sized_pieces fill number b c rs
fitting fill number size b c rs is some fits =
    ranged fill number size b c rs is some ∙ ap (λ t. cond t (Err TooLarge) (sized_pieces fill number b c rs)) (le-ltb size_limit (size + total rs) fits)

pub other_size : (fill : Option ℕ) (number size : ℕ) (b : Block) (c : Content) (rs : List (ℕ × ℕ)) (e : ImageFault) → rs ≡ ranges c b → 1 ≤ length rs → size + total rs ≤ size_limit
    → has_its_size c b (total rs) ≡ Err e → own_pieces fill number size b c ≡ Err e
other_size fill number size b c rs e is some fits err = fitting fill number size b c rs is some fits ∙ ap (λ r. r >>= λ c. bodies c b.filters fill number 0 rs >>= moved b number) err

sized : (fill : Option ℕ) (number size : ℕ) (b : Block) (c d : Content) (rs : List (ℕ × ℕ)) → rs ≡ ranges c b → 1 ≤ length rs → size + total rs ≤ size_limit
    → has_its_size c b (total rs) ≡ Ok d → own_pieces fill number size b c ≡ (bodies d b.filters fill number 0 rs >>= moved b number)
sized fill number size b c d rs is some fits ok = fitting fill number size b c rs is some fits ∙ ap (λ r. r >>= λ c. bodies c b.filters fill number 0 rs >>= moved b number) ok

pub no_body : (fill : Option ℕ) (number size : ℕ) (b : Block) (c d : Content) (rs : List (ℕ × ℕ)) (e : ImageFault) → rs ≡ ranges c b → 1 ≤ length rs → size + total rs ≤ size_limit
    → has_its_size c b (total rs) ≡ Ok d → bodies d b.filters fill number 0 rs ≡ Err e → own_pieces fill number size b c ≡ Err e
no_body fill number size b c d rs e is some fits ok err = sized fill number size b c d rs is some fits ok ∙ ap (λ r. r >>= moved b number) err

pub all_bodies : (fill : Option ℕ) (number size : ℕ) (b : Block) (c d : Content) (rs : List (ℕ × ℕ)) (made : List (ℕ × List ℕ)) → rs ≡ ranges c b → 1 ≤ length rs → size + total rs ≤ size_limit
    → has_its_size c b (total rs) ≡ Ok d → bodies d b.filters fill number 0 rs ≡ Ok made → own_pieces fill number size b c ≡ moved b number made
all_bodies fill number size b c d rs made is some fits ok all = sized fill number size b c d rs is some fits ok ∙ ap (λ r. r >>= moved b number) all

-- ------ plain bytes of the right number
room_if : (t : Bool) (c d : Content) (e : ImageFault) (n : ℕ) → cond t (Ok c) (Err e) ≡ Ok d → (t ≡ true → HasRoom c n) → HasRoom d n
room_if true c d e n ok h = let same : c ≡ d = cc in subst (λ x. HasRoom x n) same (h refl)
room_if false c d e n ok h = cc

enough : (a n : ℕ) → (a == n) ≡ true → n ≤ a
enough a n h = grind (arith, nat_tests, h)

pub has_room : (c d : Content) (b : Block) (said : ℕ) → has_its_size c b said ≡ Ok d → HasRoom d said
has_room (Mapped m) d b said ok = let same : Mapped m ≡ d = cc in subst (λ x. HasRoom x said) same tt
has_room (Plain bytes) d b said ok = room_if (length bytes == said) (Plain bytes) d (BinarySize b.id said (length bytes)) said ok (enough (length bytes) said)

-- ------ a range has an address at least
pub not_empty : (n : ℕ) (b : Bool) → b ≡ (n == 0) → b ≡ false → 1 ≤ n
not_empty zero b is other = absurd (false≢true (sym other ∙ is))
not_empty (suc n) b is other = omega arith

pub some_total : (rs : List (ℕ × ℕ)) → 1 ≤ length rs → Each IsRange rs → 1 ≤ total rs
some_total [] some within = absurd (omega arith)
some_total (r ∷ rs) some within = let one : 1 ≤ r.1 = within.0.0 in omega arith

-- ------ with its data
pub of_content : (m : EcuMem) (files : List (List ℕ × List ℕ)) (fill : Option ℕ) (number size : ℕ) (b : Block) (e : ImageFault) →
    content files (flash_of m b) ≡ Err e → block_pieces m files fill number size b ≡ Err e
of_content m files fill number size b e err = ap (λ r. r >>= own_pieces fill number size b) err

pub of_block : (m : EcuMem) (files : List (List ℕ × List ℕ)) (fill : Option ℕ) (number size : ℕ) (b : Block) (c : Content) →
    content files (flash_of m b) ≡ Ok c → block_pieces m files fill number size b ≡ own_pieces fill number size b c
of_block m files fill number size b c ok = ap (λ r. r >>= own_pieces fill number size b) ok
