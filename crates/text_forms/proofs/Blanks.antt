-- A blank at an end of a text.
use Rattle.std.proofs.Common.{◌≡◌, ◌≢◌, ◌∙◌, sym, ap, refl, ℕ, ◌<◌, ◌+◌, List, [], ◌∷◌, ◌++◌, length, length-append, reverse, Bool, true, false, cond, ◌==◌, ◌||◌, arith, Option, Some, None, MatchOption, Bor}
use Rattle.std.proofs.lemmas.List.{reverse-append, reverse-reverse}
use Rattle.std.proofs.lemmas.Bool.Decides.{nat_tests}
use Rattle.text_forms.specs.Trim.{is_blank, without_front, without_end}

abbrev pub NoFront : ℕ → List ℕ → Type 0
NoFront c bs = (rest : List ℕ) → bs ≢ c ∷ rest

abbrev pub NoEnd : ℕ → List ℕ → Type 0
NoEnd c bs = (front : List ℕ) → bs ≢ front ++ (c ∷ [])

other : (c d : ℕ) (cs : List ℕ) → NoFront d (c ∷ cs) → (c == d) ≡ false
other c d cs h = let differ : c ≢ d = λ e. h cs (ap (λ x. x ∷ cs) e) in grind (arith, nat_tests, differ)

pub front_stays : (bs : List ℕ) → NoFront 32 bs → NoFront 9 bs → NoFront 10 bs → NoFront 13 bs → without_front bs ≡ bs
front_stays [] a b c d = refl
front_stays (x ∷ xs) a b c d = rw (other x 32 xs a, other x 9 xs b, other x 10 xs c, other x 13 xs d) refl

pub front_goes : (c : ℕ) (bs rest : List ℕ) → is_blank c ≡ true → bs ≡ c ∷ rest → without_front bs ≡ without_front rest
front_goes c bs rest h e = rw (e, h) refl

pub front_shorter : (c : ℕ) (bs rest : List ℕ) → bs ≡ c ∷ rest → length rest < length bs
front_shorter c bs rest e = rw e (omega arith)

-- the last element of a list
ends : (bs rs : List ℕ) → reverse bs ≡ rs → NoEnd 32 bs → NoEnd 9 bs → NoEnd 10 bs → NoEnd 13 bs → without_front rs ≡ rs
ends bs [] e a b c d = refl
ends bs (x ∷ xs) e a b c d =
    let whole : bs ≡ reverse xs ++ (x ∷ []) = sym (reverse-reverse bs) ∙ ap reverse e ∙ reverse-append (x ∷ []) xs in
    let differ : (y : ℕ) → NoEnd y bs → (x == y) ≡ false = λ y h. other_end x y (λ f. h (reverse xs) (whole ∙ ap (λ z. reverse xs ++ (z ∷ [])) f)) in
    rw (differ 32 a, differ 9 b, differ 10 c, differ 13 d) refl
  where
    other_end : (x y : ℕ) → x ≢ y → (x == y) ≡ false
    other_end x y h = grind (arith, nat_tests, h)

pub end_stays : (bs : List ℕ) → NoEnd 32 bs → NoEnd 9 bs → NoEnd 10 bs → NoEnd 13 bs → without_end bs ≡ bs
end_stays bs a b c d = ap reverse (ends bs (reverse bs) refl a b c d) ∙ reverse-reverse bs

pub end_goes : (c : ℕ) (bs front : List ℕ) → is_blank c ≡ true → bs ≡ front ++ (c ∷ []) → without_end bs ≡ without_end front
end_goes c bs front h e =
    let turned : reverse bs ≡ c ∷ reverse front = ap reverse e ∙ reverse-append front (c ∷ []) in
    let gone : without_front (reverse bs) ≡ without_front (reverse front) = rw (turned, h) refl in
    ap reverse gone

pub end_shorter : (c : ℕ) (bs front : List ℕ) → bs ≡ front ++ (c ∷ []) → length front < length bs
end_shorter c bs front e = rw (e, length-append front (c ∷ [])) (omega arith)

-- after the tests for a blank, a tab and LF the test for CR decides
pub front_decided : (r : Option (Bor (List ℕ))) (bs : List ℕ) → NoFront 32 bs → NoFront 9 bs → NoFront 10 bs → MatchOption r (NoFront 13 bs) (λ x. bs ≡ 13 ∷ x.now) →
    MatchOption r (without_front bs ≡ bs) (λ rest. without_front bs ≡ without_front rest.now)
front_decided None bs a b c m = front_stays bs a b c m
front_decided (Some x) bs a b c m = front_goes 13 bs x.now refl m

pub end_decided : (r : Option (Bor (List ℕ))) (bs : List ℕ) → NoEnd 32 bs → NoEnd 9 bs → NoEnd 10 bs → MatchOption r (NoEnd 13 bs) (λ x. bs ≡ x.now ++ (13 ∷ [])) →
    MatchOption r (without_end bs ≡ bs) (λ rest. without_end bs ≡ without_end rest.now)
end_decided None bs a b c m = end_stays bs a b c m
end_decided (Some x) bs a b c m = end_goes 13 bs x.now refl m
