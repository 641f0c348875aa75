-- The frames of bytes do not depend on how the bytes are cut.
use Rattle.std.proofs.Common.{◌≡◌, inl, inr, ℕ, zero, suc, ◌+◌, ◌<◌, ◌≤◌, true, false, List, [], ◌∷◌, ◌++◌, length, take, drop, None, refl, sym, ◌∙◌, ap, arith, length-drop, length-append}
use Rattle.std.specs.Prelude.{nat_lt, is_some, ◌==◌, ◌&&◌}
use Rattle.std.proofs.lemmas.Bool.{cases_lt, lt-ltb, le-ltb, cases_Bool, false≢true}
use Rattle.std.proofs.lemmas.List.{take-append-le}
use Rattle.flash_base.specs.Numbers.{number2, number4}
use Rattle.doip_frame.specs.declared.frame.Bad.{Bad}
use Rattle.doip_frame.specs.Frame.{Cut, Partial, Wrong, Whole, cut_frame, cut_body, cut_sized, is_length, frame_of, Stream, stream_of, stream_in, stream_after, with_frame}

pub drop_more : (n : ℕ) (xs ys : List ℕ) → n ≤ length xs → drop n (xs ++ ys) ≡ drop n xs ++ ys
drop_more zero xs ys le = refl
drop_more (suc n) [] ys le = absurd (omega (arith, le))
drop_more (suc n) (x ∷ xs) ys le = drop_more n xs ys (omega (arith, le))

-- a refusal and a whole frame stay as they are where more bytes follow
abbrev pub Grows : Cut → Cut → List ℕ → Type 0
Grows Partial after more = Unit {0}
Grows (Wrong bad) after more = after ≡ Wrong bad
Grows (Whole kind payload rest) after more = after ≡ Whole kind payload (rest ++ more)

sized_grows : (kind n : ℕ) (rest more : List ℕ) → Grows (cut_sized kind n rest) (cut_sized kind n (rest ++ more)) more
sized_grows kind n rest more = elim (cases_Bool (nat_lt 65600 n)) [
  | inl e ↦ rw e refl
  | inr e ↦ elim (cases_Bool (is_length kind n)) [
    | inr f ↦ rw (e, f) refl
    | inl f ↦ elim (cases_lt (length rest) n) [
      | inl lt ↦ let s : nat_lt (length rest) n ≡ true = lt-ltb _ _ lt in rw (e, f, s) tt
      | inr ge ↦
          let s : nat_lt (length rest) n ≡ false = le-ltb _ _ ge in
          let s2 : nat_lt (length (rest ++ more)) n ≡ false = le-ltb _ _ (omega (arith, ge, length-append rest more)) in
          let t : take n (rest ++ more) ≡ take n rest = take-append-le n rest more ge in
          let d : drop n (rest ++ more) ≡ drop n rest ++ more = drop_more n rest more ge in
          rw (e, f, s, s2, t, d) refl
    ]
  ]
]

body_grows : (bytes more : List ℕ) → Grows (cut_body bytes) (cut_body (bytes ++ more)) more
body_grows [] more = tt
body_grows (a ∷ []) more = tt
body_grows (a ∷ b ∷ []) more = tt
body_grows (a ∷ b ∷ c ∷ []) more = tt
body_grows (a ∷ b ∷ c ∷ d ∷ []) more = tt
body_grows (a ∷ b ∷ c ∷ d ∷ e ∷ []) more = tt
body_grows (a ∷ b ∷ c ∷ d ∷ e ∷ f ∷ rest) more = sized_grows (number2 a b) (number4 c d e f) rest more

one_grows : (p : ℕ) (more : List ℕ) → Grows (cut_frame (p ∷ [])) (cut_frame (p ∷ more)) more
one_grows p [] = elim (cases_Bool (p == 3)) [ inl e ↦ rw e tt | inr e ↦ rw e refl ]
one_grows p (x ∷ more) = elim (cases_Bool (p == 3)) [ inl e ↦ rw e tt | inr e ↦ rw e refl ]

pub grows : (bytes more : List ℕ) → Grows (cut_frame bytes) (cut_frame (bytes ++ more)) more
grows [] more = tt
grows (p ∷ []) more = one_grows p more
grows (p ∷ q ∷ rest) more = elim (cases_Bool (p == 3 && q == 252)) [
  | inl e ↦ rw e (body_grows rest more)
  | inr e ↦ rw e refl
]

-- a whole frame is shorter than the bytes by at least eight
abbrev pub Shortens : Cut → ℕ → Type 0
Shortens Partial n = Unit {0}
Shortens (Wrong bad) n = Unit {0}
Shortens (Whole kind payload rest) n = length rest < n

sized_shortens : (kind n : ℕ) (rest : List ℕ) → Shortens (cut_sized kind n rest) (1 + length rest)
sized_shortens kind n rest = elim (cases_Bool (nat_lt 65600 n)) [
  | inl e ↦ rw e tt
  | inr e ↦ elim (cases_Bool (is_length kind n)) [
    | inr f ↦ rw (e, f) tt
    | inl f ↦ elim (cases_Bool (nat_lt (length rest) n)) [
      | inl s ↦ rw (e, f, s) tt
      | inr s ↦ let l = length-drop n rest in rw (e, f, s) (omega (arith, l))
    ]
  ]
]

more_shortens : (cut : Cut) (m n : ℕ) → m ≤ n → Shortens cut m → Shortens cut n
more_shortens Partial m n le is = tt
more_shortens (Wrong bad) m n le is = tt
more_shortens (Whole kind payload rest) m n le is = omega (arith, is, le)

body_shortens : (bytes : List ℕ) → Shortens (cut_body bytes) (1 + length bytes)
body_shortens [] = tt
body_shortens (a ∷ []) = tt
body_shortens (a ∷ b ∷ []) = tt
body_shortens (a ∷ b ∷ c ∷ []) = tt
body_shortens (a ∷ b ∷ c ∷ d ∷ []) = tt
body_shortens (a ∷ b ∷ c ∷ d ∷ e ∷ []) = tt
body_shortens (a ∷ b ∷ c ∷ d ∷ e ∷ f ∷ rest) = more_shortens (cut_sized (number2 a b) (number4 c d e f) rest) (1 + length rest) (1 + suc (suc (suc (suc (suc (suc (length rest))))))) (omega arith) (sized_shortens (number2 a b) (number4 c d e f) rest)

pub shortens : (bytes : List ℕ) → Shortens (cut_frame bytes) (length bytes)
shortens [] = tt
shortens (p ∷ []) = elim (cases_Bool (p == 3)) [ inl e ↦ rw e tt | inr e ↦ rw e tt ]
shortens (p ∷ q ∷ rest) = elim (cases_Bool (p == 3 && q == 252)) [
  | inl e ↦ rw e (more_shortens (cut_body rest) (1 + length rest) (suc (suc (length rest))) (omega arith) (body_shortens rest))
  | inr e ↦ rw e tt
]

-- more steps than bytes change nothing
pub enough : (m n : ℕ) (bytes : List ℕ) → length bytes < m → length bytes < n → stream_in m bytes ≡ stream_in n bytes
enough zero n bytes lm ln = absurd (omega (arith, lm))
enough (suc m) zero bytes lm ln = absurd (omega (arith, ln))
enough (suc m) (suc n) bytes lm ln = go (λ rest lt. enough m n rest (omega (arith, lt, lm)) (omega (arith, lt, ln))) (cut_frame bytes) (shortens bytes)
  where
    go : ((rest : List ℕ) → length rest < length bytes → stream_in m rest ≡ stream_in n rest) → (cut : Cut) → Shortens cut (length bytes) → stream_after cut (stream_in m) bytes ≡ stream_after cut (stream_in n) bytes
    go again Partial is = refl
    go again (Wrong bad) is = refl
    go again (Whole kind payload rest) is = ap (with_frame (frame_of kind payload)) (again rest is)

-- the frames of a, and those of what is left of it followed by b
abbrev pub joined : Stream → List ℕ → Stream
joined s b = record { frames = s.frames ++ (stream_of (s.rest ++ b)).frames; rest = (stream_of (s.rest ++ b)).rest; bad = (stream_of (s.rest ++ b)).bad }

split_in : (n : ℕ) (a b : List ℕ) → length a < n → (stream_in n a).bad ≡ None → stream_of (a ++ b) ≡ joined (stream_in n a) b
split_in zero a b lt good = absurd (omega (arith, lt))
split_in (suc n) a b lt good = go (λ rest short ok. split_in n rest b (omega (arith, short, lt)) ok) (cut_frame a) (shortens a) (grows a b) good
  where
    go : ((rest : List ℕ) → length rest < length a → (stream_in n rest).bad ≡ None → stream_of (rest ++ b) ≡ joined (stream_in n rest) b)
        → (cut : Cut) → Shortens cut (length a) → Grows cut (cut_frame (a ++ b)) b → (stream_after cut (stream_in n) a).bad ≡ None → stream_of (a ++ b) ≡ joined (stream_after cut (stream_in n) a) b
    go again Partial short grow ok = refl
    go again (Wrong bad) short grow ok = absurd (false≢true (sym (ap (is_some {T = Bad}) ok)))
    go again (Whole kind payload rest) short grow ok =
        let here : stream_of (a ++ b) ≡ with_frame (frame_of kind payload) (stream_in (length (a ++ b)) (rest ++ b)) = ap (λ c. stream_after c (stream_in (length (a ++ b))) (a ++ b)) grow in
        let same : stream_in (length (a ++ b)) (rest ++ b) ≡ stream_of (rest ++ b) = enough (length (a ++ b)) (suc (length (rest ++ b))) (rest ++ b) (omega (arith, short, length-append a b, length-append rest b)) (omega arith) in
        here ∙ ap (with_frame (frame_of kind payload)) (same ∙ again rest short ok)

pub split : (a b : List ℕ) → (stream_of a).bad ≡ None → stream_of (a ++ b) ≡ joined (stream_of a) b
split a b good = split_in (suc (length a)) a b (omega arith) good
