-- Digits of one byte more.
use Rattle.std.proofs.Common.{◌≡◌, ℕ, ◌+◌, ◌/◌, ◌%◌, ◌<◌, List, [], ◌∷◌, ◌++◌, length, take, get_or, refl, sym, ap, ◌∙◌, append_assoc}
use Rattle.std.proofs.lemmas.List.{take_more}
use Rattle.rec_text.specs.Spelling.{digit_char, digits_of}

pub digits_of-push : (xs : List ℕ) (b : ℕ) → digits_of (xs ++ (b ∷ [])) ≡ digits_of xs ++ (digit_char (b / 16) ∷ digit_char (b % 16) ∷ [])
digits_of-push [] b = refl
digits_of-push (x ∷ xs) b = ap (λ l. digit_char (x / 16) ∷ digit_char (x % 16) ∷ l) (digits_of-push xs b)

-- a text that was lengthened by the first digits, and then by those of one byte more
pub one_more : (new text bs : List ℕ) (i high low : ℕ) → i < length bs → high ≡ digit_char (get_or bs i 0 / 16) → low ≡ digit_char (get_or bs i 0 % 16)
    → new ≡ ((text ++ digits_of (take i bs)) ++ (high ∷ [])) ++ (low ∷ []) → new ≡ text ++ digits_of (take (i + 1) bs)
one_more new text bs i high low l h k e =
    e
    ∙ append_assoc (text ++ digits_of (take i bs)) (high ∷ []) (low ∷ [])
    ∙ append_assoc text (digits_of (take i bs)) (high ∷ low ∷ [])
    ∙ ap (λ x. text ++ (digits_of (take i bs) ++ (x ∷ low ∷ []))) h
    ∙ ap (λ y. text ++ (digits_of (take i bs) ++ (digit_char (get_or bs i 0 / 16) ∷ y ∷ []))) k
    ∙ ap (λ t. text ++ t) (sym (ap digits_of (take_more bs i 0 l) ∙ digits_of-push (take i bs) (get_or bs i 0)))

pub digits_of-append : (xs ys : List ℕ) → digits_of (xs ++ ys) ≡ digits_of xs ++ digits_of ys
digits_of-append [] ys = refl
digits_of-append (x ∷ xs) ys = ap (λ l. digit_char (x / 16) ∷ digit_char (x % 16) ∷ l) (digits_of-append xs ys)

pub both_digits : (new middle text head more : List ℕ) → middle ≡ text ++ digits_of head → new ≡ middle ++ digits_of more → new ≡ text ++ digits_of (head ++ more)
both_digits new middle text head more a b =
    b ∙ ap (λ t. t ++ digits_of more) a ∙ append_assoc text (digits_of head) (digits_of more) ∙ ap (λ t. text ++ t) (sym (digits_of-append head more))
