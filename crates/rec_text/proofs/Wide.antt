-- Digits in the lanes of vectors.
use Rattle.std.proofs.Common.{zero, suc, ◌≡◌, ℕ, ◌+◌, ◌-◌, ◌*◌, ◌%◌, ◌^◌, ◌<◌, ◌≤◌, Bool, true, false, ◌||◌, ◌&&◌, cond, eqb, ltb, leb, T, List, [], ◌∷◌, ◌++◌, length, map, take, drop, get_or, replicate, bit_and, Option, Some, None, Fits, w8, w32, refl, sym, ap, ◌∙◌, subst, arith, inl, inr, eq-zero-or-pos, leb-true, leb-false, eqb-true, length-append, length-take}
use Rattle.std.proofs.lemmas.List.{get_or-map, length-map, append_assoc}
use Rattle.std.proofs.lemmas.List.FromFn.{get_or-map-range_with_len, length-map-range_with_len}
use Rattle.std.proofs.lemmas.Simd.{get_or-chunk, length-chunk, mask_l-mod, length-zip2, put_chunk_is}
use lib.Lanes.{put_chunk, zip2, sel_l, mask_l, top, Each1, Steps, fold_l}
use Rattle.rec_text.specs.Digits.{digit_of, byte_of}
use Rattle.rec_text.proofs.Smalls.{take_front}
use Rattle.rec_text.specs.Lanes.{value, smaller, larger, coupled, Spell}

-- ------ each lane
abbrev pub plus : ℕ → ℕ → ℕ
plus a b = (a + b) % 2 ^ 8

abbrev pub minus : ℕ → ℕ → ℕ
minus a b = (a + (2 ^ 8 - b)) % 2 ^ 8

abbrev pub is_below : ℕ → ℕ → ℕ
is_below a b = cond (ltb a b) 255 0

abbrev pub at_most : ℕ → ℕ → ℕ
at_most a b = cond (leb a b) 255 0

abbrev pub larger_of : List ℕ → List ℕ → List ℕ
larger_of xs ys = sel_l (map (top 7) (zip2 is_below xs ys)) ys xs

abbrev pub smaller_of : List ℕ → List ℕ → List ℕ
smaller_of xs ys = sel_l (map (top 7) (zip2 is_below xs ys)) xs ys

abbrev pub number : ℕ → List ℕ → List ℕ
number n v = zip2 minus (larger_of (zip2 plus v (replicate n 198)) (replicate n 6)) (replicate n 246)

abbrev pub letter : ℕ → List ℕ → List ℕ
letter n v = zip2 plus (smaller_of (zip2 minus (zip2 bit_and v (replicate n 223)) (replicate n 65)) (replicate n 245)) (replicate n 10)

chosen : (t : Bool) (a b : ℕ) → cond (top 7 (cond t 255 0)) a b ≡ cond t a b
chosen true a b = refl
chosen false a b = refl

abbrev pick : ℕ → ℕ → ℕ
pick m n = cond (top 7 (is_below m n)) m n

one_value : (c : ℕ) → pick (minus (cond (top 7 (is_below (plus c 198) 6)) 6 (plus c 198)) 246) (plus (pick (minus (bit_and c 223) 65) 245) 10) ≡ value c
one_value c =
    let p : ℕ = plus c 198 in
    let q : ℕ = minus (bit_and c 223) 65 in
    ap (λ t. pick (minus t 246) (plus (pick q 245) 10)) (chosen (ltb p 6) 6 p)
    ∙ ap (λ t. pick (minus (larger p 6) 246) (plus t 10)) (chosen (ltb q 245) q 245)
    ∙ chosen (ltb (minus (larger p 6) 246) (plus (smaller q 245) 10)) (minus (larger p 6) 246) (plus (smaller q 245) 10)

pub values_are : (n : ℕ) (v : List ℕ) → length v ≡ n → smaller_of (number n v) (letter n v) ≡ map value v
values_are zero [] e = refl
values_are zero (x ∷ xs) e = absurd (omega arith)
values_are (suc n) [] e = absurd (omega arith)
values_are (suc n) (x ∷ xs) e =
    ap (λ h. h ∷ smaller_of (number n xs) (letter n xs)) (one_value x) ∙ ap (λ t. value x ∷ t) (values_are n xs (omega arith))

-- ------ tests of all lanes
flag : (t : Bool) → ◌≡◌ {A = ℕ} (cond (top 7 (cond t 255 0)) 1 0) 0 → t ≡ false
flag true e = absurd (omega arith)
flag false e = refl

none_large : (v : List ℕ) → mask_l (map (top 7) (zip2 at_most (replicate (length v) 16) v)) ≡ 0 → (k : ℕ) → get_or v k 0 < 16
none_large [] e k = omega arith
none_large (x ∷ xs) e zero = leb-false 16 x (flag (leb 16 x) (omega arith))
none_large (x ∷ xs) e (suc k) = none_large xs (omega arith) k

pub all_small : (v : List ℕ) → length v ≡ 32 → eqb (mask_l (map (top 7) (zip2 at_most (replicate 32 16) v)) % 2 ^ 64) 0 ≡ true → (k : ℕ) → get_or v k 0 < 16
all_small v long e k =
    let size : length (map (top 7) (zip2 at_most (replicate 32 16) v)) ≡ 32 = length-map (zip2 at_most (replicate 32 16) v) (top 7) ∙ length-zip2 at_most (replicate 32 16) v (sym long) in
    none_large v
    (ap (λ n. mask_l (map (top 7) (zip2 at_most (replicate n 16) v))) long
    ∙ sym (mask_l-mod (map (top 7) (zip2 at_most (replicate 32 16) v)) 64 (omega arith))
    ∙ eqb-true _ _ e) k

-- ------ sums
pub steps_fit : (t : ℕ) (v : List ℕ) → Each1 (Fits w8) v → t + 255 * length v < 2 ^ 32 → Steps (λ s x. Fits w32 (s + x)) (λ s x. s + x) t (map (λ x. x) v)
steps_fit t [] f l = tt
steps_fit t (x ∷ xs) f l = let s : x < 2 ^ 8 = f.0.fits in (record { fits = omega arith }, steps_fit (t + x) xs f.1 (omega arith))

pub fold_small : (t : ℕ) (v : List ℕ) → Each1 (Fits w8) v → fold_l (λ s x. s + x) t (map (λ x. x) v) ≤ t + 255 * length v
fold_small t [] f = omega arith
fold_small t (x ∷ xs) f = let s : x < 2 ^ 8 = f.0.fits in let r = fold_small (t + x) xs f.1 in omega arith

-- ------ a value below 16 is the digit's
abbrev below_all : (ℕ → Bool) → ℕ → Bool
below_all p zero = true
below_all p (suc n) = p n && below_all p n

and_left : (a b : Bool) → T (a && b) → T a
and_left true b t = tt
and_left false b t = absurd t

and_right : (a b : Bool) → T (a && b) → T b
and_right true b t = t
and_right false b t = absurd t

every : (p : ℕ → Bool) (n : ℕ) → T (below_all p n) → (i : ℕ) → i < n → T (p i)
every p zero h i l = absurd (omega arith)
every p (suc n) h i l =
    elim (eq-zero-or-pos (n - i)) [
      | inl z ↦ let e : n ≡ i = omega arith in subst (λ x. T (p x)) e (and_left (p n) (below_all p n) h)
      | inr g ↦ every p n (and_right (p n) (below_all p n) h) i (omega arith)
    ]

abbrev is_digit : Option ℕ → ℕ → Bool
is_digit None v = leb 16 v
is_digit (Some d) v = eqb d v || leb 16 v

is_some : (o : Option ℕ) (v : ℕ) → v < 16 → T (is_digit o v) → o ≡ Some v
is_some None v l t = go (leb 16 v) refl t
  where
    go : (b : Bool) → leb 16 v ≡ b → T b → None ≡ Some v
    go true e t = absurd (omega (arith, leb-true 16 v e))
    go false e t = absurd t
is_some (Some d) v l t = go (eqb d v) (leb 16 v) refl refl t
  where
    go : (a b : Bool) → eqb d v ≡ a → leb 16 v ≡ b → T (a || b) → Some d ≡ Some v
    go true b e f t = ap Some (eqb-true d v e)
    go false true e f t = absurd (omega (arith, leb-true 16 v f))
    go false false e f t = absurd t

pub value_digit : (c : ℕ) → c < 256 → value c < 16 → digit_of c ≡ Some (value c)
value_digit c l s = is_some (digit_of c) (value c) s (every (λ d. is_digit (digit_of d) (value d)) 256 tt c l)

-- ------ 32 characters
pub spells : (digits : List ℕ) (at : ℕ) (w : List ℕ) → ((j : ℕ) → get_or digits j 0 < 256) → at + 32 ≤ length digits → w ≡ map value (take 32 (drop at digits)) → ((k : ℕ) → get_or w k 0 < 16)
    → Spell digits at (coupled w)
spells digits at w fits room e small k l =
    let size : length (coupled w) ≡ 16 = length-map-range_with_len (λ k. (get_or w (2 * k) 0 * 16 % 256 + get_or w (2 * k + 1) 0) % 256) 0 16 in
    let here : k < 16 = omega arith in
    let h = lane (2 * k) (omega arith) in
    let g = lane (2 * k + 1) (omega arith) in
    let a : get_or w (2 * k) 0 < 16 = small (2 * k) in
    let b : get_or w (2 * k + 1) 0 < 16 = small (2 * k + 1) in
    let is : get_or (coupled w) k 0 ≡ (get_or w (2 * k) 0 * 16 % 256 + get_or w (2 * k + 1) 0) % 256
    = get_or-map-range_with_len (λ k. (get_or w (2 * k) 0 * 16 % 256 + get_or w (2 * k + 1) 0) % 256) 0 16 k k 0 here (omega arith) in
    let whole : get_or (coupled w) k 0 ≡ get_or w (2 * k) 0 * 16 + get_or w (2 * k + 1) 0 = omega arith in
    ap Some whole ∙ sym (ap (λ o. byte_of o (digit_of (get_or digits (at + (2 * k + 1)) 0))) h ∙ ap (λ o. byte_of (Some (get_or w (2 * k) 0)) o) g)
  where
    lane : (j : ℕ) → j < 32 → digit_of (get_or digits (at + j) 0) ≡ Some (get_or w j 0)
    lane j l =
        let long : length (take 32 (drop at digits)) ≡ 32 = length-chunk at 32 digits room in
        let is : get_or w j 0 ≡ value (get_or digits (at + j) 0)
        = ap (λ x. get_or x j 0) e ∙ get_or-map value (take 32 (drop at digits)) j 0 0 (omega arith) ∙ ap value (get_or-chunk at 32 digits j 0 l) in
        let s : get_or w j 0 < 16 = small j in
        value_digit (get_or digits (at + j) 0) (fits (at + j)) (omega arith) ∙ ap Some (sym is)

-- a vector put to a place
pub put_front : (k : ℕ) (out mid post bytes : List ℕ) → k ≤ length out → length bytes ≡ 16 → 16 ≤ length mid
    → take (k + 16) (take k out ++ (put_chunk 0 mid bytes ++ post)) ≡ take k out ++ bytes
put_front k out mid post bytes le size room =
    let rest : List ℕ = drop (length bytes) mid in
    let put : put_chunk 0 mid bytes ≡ bytes ++ rest = put_chunk_is 0 mid bytes (omega arith) in
    let long : k + 16 ≡ length (take k out ++ bytes) = omega (arith, length-append (take k out) bytes, length-take k out) in
    ap (λ t. take (k + 16) (take k out ++ (t ++ post))) put
    ∙ ap (λ t. take (k + 16) (take k out ++ t)) (append_assoc bytes rest post)
    ∙ ap (take (k + 16)) (sym (append_assoc (take k out) bytes (rest ++ post)))
    ∙ ap (λ n. take n ((take k out ++ bytes) ++ (rest ++ post))) long
    ∙ take_front (take k out ++ bytes) (rest ++ post)
