-- What is written is lines that spell the same bytes again.
use Rattle.std.proofs.Common.{◌≡◌, ℕ, ◌+◌, ◌*◌, ◌/◌, ◌%◌, ◌<◌, ◌≤◌, List, [], ◌∷◌, ◌++◌, cond, Some, refl, sym, ap, ◌∙◌, inl, inr, arith, append-nil, append_assoc}
use Rattle.std.proofs.lemmas.Bool.{cases_lt, le-leb, lt-leb, lt-ltb, le-ltb, ne_eqb}
use Rattle.rec_text.specs.Digits.{digit_of, byte_of, with_byte, bytes_of}
use Rattle.rec_text.specs.Lines.{lines, lines_from, without_return}
use Rattle.rec_text.specs.Spelling.{digit_char, digits_of}
use Rattle.rec_text.proofs.Smalls.{Small}

char_low : (d : ℕ) → d < 10 → digit_char d ≡ 48 + d
char_low d l = rw (lt-ltb d 10 l) refl

char_high : (d : ℕ) → 10 ≤ d → digit_char d ≡ 55 + d
char_high d g = rw (le-ltb d 10 g) refl

low : (d : ℕ) → d < 10 → digit_of (48 + d) ≡ Some d
low d l =
    let a : 48 ≤ 48 + d = omega arith in
    let b : 48 + d ≤ 57 = omega arith in
    rw (le-leb 48 (48 + d) a, le-leb (48 + d) 57 b) (ap Some (omega arith))

high : (d : ℕ) → 10 ≤ d → d < 16 → digit_of (55 + d) ≡ Some d
high d g l =
    let a : 48 ≤ 55 + d = omega arith in
    let b : 57 < 55 + d = omega arith in
    let c : 65 ≤ 55 + d = omega arith in
    let e : 55 + d ≤ 70 = omega arith in
    rw (le-leb 48 (55 + d) a, lt-leb (55 + d) 57 b, le-leb 65 (55 + d) c, le-leb (55 + d) 70 e) (ap Some (omega arith))

pub digit_back : (d : ℕ) → d < 16 → digit_of (digit_char d) ≡ Some d
digit_back d h =
    elim (cases_lt d 10) [
      | inl l ↦ ap digit_of (char_low d l) ∙ low d l
      | inr g ↦ ap digit_of (char_high d g) ∙ high d g h
    ]

pub digits_back : (bs : List ℕ) → Small bs → bytes_of (digits_of bs) ≡ Some bs
digits_back [] s = refl
digits_back (b ∷ bs) s =
    let l = s.0 in
    let whole : b / 16 * 16 + b % 16 ≡ b = omega arith in
    ap (λ o. with_byte (byte_of o (digit_of (digit_char (b % 16)))) (bytes_of (digits_of bs))) (digit_back (b / 16) (omega arith))
    ∙ ap (λ o. with_byte (byte_of (Some (b / 16)) o) (bytes_of (digits_of bs))) (digit_back (b % 16) (omega arith))
    ∙ ap (with_byte (Some (b / 16 * 16 + b % 16))) (digits_back bs s.1)
    ∙ ap (λ x. Some (x ∷ bs)) whole

-- no line feed and no carriage return
abbrev pub Plain : List ℕ → Type 0
Plain [] = Unit {0}
Plain (c ∷ cs) = (20 < c) × Plain cs

char_plain : (d : ℕ) → 20 < digit_char d
char_plain d =
    elim (cases_lt d 10) [
      | inl l ↦ let e = char_low d l in omega arith
      | inr g ↦ let e = char_high d g in omega arith
    ]

pub digits_plain : (bs : List ℕ) → Plain (digits_of bs)
digits_plain [] = tt
digits_plain (b ∷ bs) = (char_plain (b / 16), (char_plain (b % 16), digits_plain bs))

kept : (xs : List ℕ) → Plain xs → without_return xs ≡ xs
kept [] p = refl
kept (c ∷ []) p = let l = p.0 in rw (ne_eqb c 13 (λ e. omega arith)) refl
kept (c ∷ d ∷ cs) p = ap (λ t. c ∷ t) (kept (d ∷ cs) p.1)

Plain-append : (xs ys : List ℕ) → Plain xs → Plain ys → Plain (xs ++ ys)
Plain-append [] ys p q = q
Plain-append (x ∷ xs) ys p q = (p.0, Plain-append xs ys p.1 q)

line_from : (front xs rest : List ℕ) → Plain front → Plain xs → lines_from front (xs ++ (10 ∷ rest)) ≡ (front ++ xs) ∷ lines rest
line_from front [] rest p q = ap (λ t. t ∷ lines rest) (kept front p ∙ sym (append-nil front))
line_from front (c ∷ xs) rest p q =
    let l = q.0 in
    ap (λ b. cond b (without_return front ∷ lines_from [] (xs ++ (10 ∷ rest))) (lines_from (front ++ (c ∷ [])) (xs ++ (10 ∷ rest)))) (ne_eqb c 10 (λ e. omega arith))
    ∙ line_from (front ++ (c ∷ [])) xs rest (Plain-append front (c ∷ []) p (l, tt)) q.1
    ∙ ap (λ t. t ∷ lines rest) (append_assoc front (c ∷ []) xs)

-- a line in front of others
pub line_first : (xs rest : List ℕ) → Plain xs → lines (xs ++ (10 ∷ rest)) ≡ xs ∷ lines rest
line_first xs rest q = line_from [] xs rest tt q
