-- Bytes laid over others.
use Rattle.std.proofs.Math.Seq.{take-append-add, take-add}
use Rattle.std.proofs.lemmas.List.{take-append-drop, take-append-le, take_all, length-take-le}
use Rattle.std.proofs.lemmas.Slice.{drop-append-drop}
use Rattle.std.proofs.Common.{append_assoc, length-drop, ◌⊎◌, inl, inr, ◌≡◌, ◌∙◌, sym, refl, ap, zero, suc, ◌+◌, ◌-◌, ◌<◌, ◌≤◌, ℕ, List, [], ◌∷◌, ◌++◌, length, take, drop, Option, Some, None, Ok, arith, replicate, cond, get_or, Bool, true, false}
use Rattle.std.proofs.lemmas.Bool.Decides.{nat_tests}
use Rattle.std.proofs.lemmas.Option.{slice_get-get_or}
use Rattle.flash_base.specs.ByteMaps.{is_in}
use Rattle.std.specs.Prelude.{slice_get}
use Rattle.session_image.specs.Checks.{or_byte, check_byte, check_bytes, source_byte}
use Rattle.session_image.specs.Kept.{laid, byte_in}
use Rattle.session_image.specs.Pieces.{◌>>=◌, or_fill, with_byte, filled}
use Rattle.session_image.specs.declared.pieces.Piece.{Piece}

pub laid-append : (look : ℕ → Option ℕ) (a : ℕ) (xs ys : List ℕ) → laid look a (xs ++ ys) ≡ laid look a xs ++ laid look (a + length xs) ys
laid-append look a [] ys = let e : a ≡ a + 0 = omega arith in ap (λ n. laid look n ys) e
laid-append look a (x ∷ xs) ys =
    let e : a + 1 + length xs ≡ a + suc (length xs) = omega arith in
    ap (λ l. or_byte (look a) x ∷ l) (laid-append look (a + 1) xs ys ∙ ap (λ n. laid look (a + 1) xs ++ laid look n ys) e)

-- where nothing is looked up
pub laid_none : (look : ℕ → Option ℕ) (a : ℕ) (xs : List ℕ) → ((b : ℕ) → a ≤ b → b < a + length xs → look b ≡ None) → laid look a xs ≡ xs
laid_none look a [] h = refl
laid_none look a (x ∷ xs) h =
    ap (λ o. or_byte o x ∷ laid look (a + 1) xs) (h a (omega arith) (omega arith))
    ∙ ap (λ l. x ∷ l) (laid_none look (a + 1) xs (λ b l u. h b (omega arith) (omega arith)))

-- where other bytes are looked up
pub laid_held : (look : ℕ → Option ℕ) (a : ℕ) (xs bs : List ℕ) → length xs ≡ length bs → ((k : ℕ) → k < length bs → look (a + k) ≡ slice_get bs k) → laid look a xs ≡ bs
laid_held look a [] [] n h = refl
laid_held look a [] (b ∷ bs) n h = absurd (omega (arith, n))
laid_held look a (x ∷ xs) [] n h = absurd (omega (arith, n))
laid_held look a (x ∷ xs) (b ∷ bs) n h =
    let e : a + 0 ≡ a = omega arith in
    let first : look a ≡ Some b = ap look (sym e) ∙ h 0 (omega arith) in
    ap (λ o. or_byte o x ∷ laid look (a + 1) xs) first
    ∙ ap (λ l. b ∷ l) (laid_held look (a + 1) xs bs (omega (arith, n)) (λ k l. let f : a + 1 + k ≡ a + suc k = omega arith in ap look f ∙ h (suc k) (omega arith)))

pub length-laid : (look : ℕ → Option ℕ) (a : ℕ) (xs : List ℕ) → length (laid look a xs) ≡ length xs
length-laid look a [] = refl
length-laid look a (x ∷ xs) = ap suc (length-laid look (a + 1) xs)

-- ------ a range that is filled up
with_fill : (o : Option ℕ) (x : ℕ) → or_fill o (Some x) ≡ Some (or_byte o x)
with_fill None x = refl
with_fill (Some y) x = refl

pub filled_up : (number : ℕ) (look : ℕ → Option ℕ) (fill a n : ℕ) → filled number look (Some fill) a n ≡ Ok (laid look a (replicate n fill))
filled_up number look fill a zero = refl
filled_up number look fill a (suc n) =
    ap (λ o. with_byte number a o (filled number look (Some fill) (a + 1) n)) (with_fill (look a) fill)
    ∙ ap (λ r. r >>= λ xs. Ok (or_byte (look a) fill ∷ xs)) (filled_up number look fill (a + 1) n)

-- ------ the bytes of a checksum
chosen : (b : Bool) (t rest : Option ℕ) (x y : ℕ) → (b ≡ true → t ≡ Some y) → or_byte (cond b t None) (or_byte rest x) ≡ or_byte (cond b t rest) x
chosen true t rest x y h = rw (h refl) refl
chosen false t rest x y h = refl

in_range : (at size a : ℕ) → is_in at size a ≡ true → (at ≤ a) × (a < at + size)
in_range at size a h = grind (arith, nat_tests, h)

one_over : (p : Piece) (ps : List Piece) (fill : Option ℕ) (a : ℕ) → or_byte (byte_in p.source p.body a) (check_byte ps fill a) ≡ check_byte (p ∷ ps) fill a
one_over p ps fill a =
    chosen (is_in p.source (length p.body) a) (slice_get p.body (a - p.source)) (source_byte ps a) (or_byte fill 255) (get_or p.body (a - p.source) 0)
    (λ h. let w = in_range p.source (length p.body) a h in let low : p.source ≤ a = w.0 in let high : a < p.source + length p.body = w.1 in slice_get-get_or p.body (a - p.source) 0 (omega arith))

-- the bytes of the first segment laid over those of the others
pub all_over : (p : Piece) (ps : List Piece) (fill : Option ℕ) (a n : ℕ) → laid (byte_in p.source p.body) a (check_bytes ps fill a n) ≡ check_bytes (p ∷ ps) fill a n
all_over p ps fill a zero = refl
all_over p ps fill a (suc n) =
    ap (λ x. x ∷ laid (byte_in p.source p.body) (a + 1) (check_bytes ps fill (a + 1) n)) (one_over p ps fill a)
    ∙ ap (λ xs. check_byte (p ∷ ps) fill a ∷ xs) (all_over p ps fill (a + 1) n)

pub none_there : (fill : Option ℕ) (a n : ℕ) → replicate n (or_byte fill 255) ≡ check_bytes [] fill a n
none_there fill a zero = refl
none_there fill a (suc n) = ap (λ xs. or_byte fill 255 ∷ xs) (none_there fill (a + 1) n)

-- a vector that was lent as a slice
pub written_back : (n : ℕ) (items xs : List ℕ) → length xs ≡ length items → n ≡ length items → take n (xs ++ drop (length xs) items) ≡ xs
written_back n items xs same is = take-append-le n xs (drop (length xs) items) (omega (arith, same, is)) ∙ take_all n xs (omega (arith, same, is))

-- bytes from the range's start on, or all of a gap before them
pub byte_outside : (at : ℕ) (bytes : List ℕ) (b : ℕ) → (b < at) ⊎ (at + length bytes ≤ b) → byte_in at bytes b ≡ None
byte_outside at bytes b (inl h) = grind (arith, nat_tests, h)
byte_outside at bytes b (inr h) = grind (arith, nat_tests, h)

pub byte_inside : (at : ℕ) (bytes : List ℕ) (b : ℕ) → at ≤ b → b < at + length bytes → byte_in at bytes b ≡ slice_get bytes (b - at)
byte_inside at bytes b l u = grind (arith, nat_tests, l, u)

-- ------ laid so far
-- the rest of the range has nothing to be laid
pub laid_rest : (look : ℕ → Option ℕ) (a n : ℕ) (o out : List ℕ) → n ≤ length o → out ≡ laid look a (take n o) ++ drop n o
    → ((b : ℕ) → a + n ≤ b → b < a + length o → look b ≡ None) → out ≡ laid look a o
laid_rest look a n o out fits was none =
    let front : length (take n o) ≡ n = length-take-le n o fits in
    let back : length (drop n o) ≡ length o - n = length-drop n o in
    was
    ∙ ap (λ l. laid look a (take n o) ++ l) (sym (laid_none look (a + n) (drop n o) (λ b l u. none b l (omega (arith, back)))))
    ∙ ap (λ x. laid look a (take n o) ++ laid look (a + x) (drop n o)) (sym front)
    ∙ sym (laid-append look a (take n o) (drop n o))
    ∙ ap (laid look a) (take-append-drop n o)

-- a gap, and then bytes that are there
pub laid_step : (look : ℕ → Option ℕ) (a n g k : ℕ) (o mid out new : List ℕ) → n + (g + k) ≤ length o → out ≡ laid look a (take n o) ++ drop n o
    → ((b : ℕ) → a + n ≤ b → b < a + n + g → look b ≡ None) → length mid ≡ k → ((i : ℕ) → i < length mid → look (a + n + g + i) ≡ slice_get mid i)
    → new ≡ take (n + g) out ++ (mid ++ drop (n + (g + k)) out)
    → new ≡ laid look a (take (n + (g + k)) o) ++ drop (n + (g + k)) o
laid_step look a n g k o mid out new fits was none many holds is =
    let f : List ℕ = laid look a (take n o) in
    let rest : List ℕ = drop n o in
    let r : ℕ = n + (g + k) in
    let first : length (take n o) ≡ n = length-take-le n o (omega arith) in
    let size : length (laid look a (take n o)) ≡ n = length-laid look a (take n o) ∙ first in
    let left : length (drop n o) ≡ length o - n = length-drop n o in
    let gap : length (take g (drop n o)) ≡ g = length-take-le g (drop n o) (omega (arith, left)) in
    let behind : length (drop g (drop n o)) ≡ length (drop n o) - g = length-drop g (drop n o) in
    let last : length (take k (drop g (drop n o))) ≡ k = length-take-le k (drop g (drop n o)) (omega (arith, left, behind)) in
    let front : take (n + g) out ≡ f ++ take g rest = ap (take (n + g)) was ∙ ap (λ x. take (x + g) (f ++ rest)) (sym size) ∙ take-append-add f rest g in
    let back : drop r out ≡ drop r o = ap (drop r) was ∙ drop-append-drop n o f r (omega arith) size in
    let bare : laid look (a + n) (take g rest) ≡ take g rest = laid_none look (a + n) (take g rest) (λ b l u. none b l (omega (arith, gap))) in
    let there : laid look (a + n + g) (take k (drop g rest)) ≡ mid = laid_held look (a + n + g) (take k (drop g rest)) mid (last ∙ sym many) holds in
    let whole : laid look a (take r o) ≡ f ++ (take g rest ++ mid) =
    ap (laid look a) (take-add n (g + k) o)
    ∙ laid-append look a (take n o) (take (g + k) rest)
    ∙ ap (λ x. f ++ laid look (a + x) (take (g + k) rest)) first
    ∙ ap (λ l. f ++ l)
    (ap (laid look (a + n)) (take-add g k rest)
    ∙ laid-append look (a + n) (take g rest) (take k (drop g rest))
    ∙ ap (λ x. laid look (a + n) (take g rest) ++ laid look (a + n + x) (take k (drop g rest))) gap
    ∙ ap (λ l. l ++ laid look (a + n + g) (take k (drop g rest))) bare
    ∙ ap (λ l. take g rest ++ l) there) in
    is
    ∙ ap (λ l. l ++ (mid ++ drop r out)) front
    ∙ ap (λ l. (f ++ take g rest) ++ (mid ++ l)) back
    ∙ sym (append_assoc (f ++ take g rest) mid (drop r o))
    ∙ ap (λ l. l ++ drop r o) (append_assoc f (take g rest) mid)
    ∙ ap (λ l. l ++ drop r o) (sym whole)

-- ------ a range in parts
pub check_parts : (ps : List Piece) (fill : Option ℕ) (a m n : ℕ) → check_bytes ps fill a (m + n) ≡ check_bytes ps fill a m ++ check_bytes ps fill (a + m) n
check_parts ps fill a zero n =
    let z : 0 + n ≡ n = omega arith in
    let y : a ≡ a + 0 = omega arith in
    ap (check_bytes ps fill a) z ∙ ap (λ k. check_bytes ps fill k n) y
check_parts ps fill a (suc m) n =
    let s : suc m + n ≡ suc (m + n) = omega arith in
    let at : a + 1 + m ≡ a + suc m = omega arith in
    ap (check_bytes ps fill a) s ∙ ap (λ l. check_byte ps fill a ∷ l) (check_parts ps fill (a + 1) m n ∙ ap (λ k. check_bytes ps fill (a + 1) m ++ check_bytes ps fill k n) at)
