-- The bytes of a range.
use Rattle.std.proofs.Common.{◌≡◌, ◌∙◌, sym, refl, ap, zero, suc, ◌+◌, ◌<◌, ◌≤◌, inl, inr, ℕ, List, [], ◌∷◌, length, Option, Some, None, Result, Ok, Err, arith, replicate}
use Rattle.std.proofs.lemmas.Bool.{cases_lt}
use Rattle.std.specs.FinMap.{get}
use Rattle.span_store.specs.ByteMap.{ByteMap}
use Rattle.span_store.specs.Lowest.{IsLowest, IsHole}
use Rattle.session_image.specs.Checks.{or_byte}
use Rattle.session_image.specs.Kept.{laid}
use Rattle.session_image.specs.Pieces.{◌>>=◌, or_fill, with_byte, filled}
use Rattle.session_image.specs.declared.types.ImageFault.{ImageFault}
use Rattle.session_image.specs.declared.types.ImageFault.TheVariants.{Hole}

-- what is looked up decides, in the range alone
pub filled_same : (number : ℕ) (f g : ℕ → Option ℕ) (fill : Option ℕ) (a n : ℕ) → ((b : ℕ) → a ≤ b → b < a + n → f b ≡ g b) → filled number f fill a n ≡ filled number g fill a n
filled_same number f g fill a zero h = refl
filled_same number f g fill a (suc n) h =
    ap (λ o. with_byte number a (or_fill o fill) (filled number f fill (a + 1) n)) (h a (omega arith) (omega arith))
    ∙ ap (with_byte number a (or_fill (g a) fill)) (filled_same number f g fill (a + 1) n (λ b l u. h b (omega arith) (omega arith)))

-- ------ as many bytes as addresses
length_one : (number a n : ℕ) (o : Option ℕ) (r : Result (List ℕ) ImageFault) (xs : List ℕ) → ((ys : List ℕ) → r ≡ Ok ys → length ys ≡ n) → with_byte number a o r ≡ Ok xs → length xs ≡ suc n
length_one number a n None r xs rest e = cc
length_one number a n (Some x) (Ok ys) xs rest e = let same : x ∷ ys ≡ xs = cc in sym (ap length same) ∙ ap suc (rest ys refl)
length_one number a n (Some x) (Err f) xs rest e = cc

pub filled_length : (number : ℕ) (look : ℕ → Option ℕ) (fill : Option ℕ) (a n : ℕ) (xs : List ℕ) → filled number look fill a n ≡ Ok xs → length xs ≡ n
filled_length number look fill a zero xs e = let none : [] ≡ xs = cc in sym (ap length none)
filled_length number look fill a (suc n) xs e =
    length_one number a n (or_fill (look a) fill) (filled number look fill (a + 1) n) xs (λ ys. filled_length number look fill (a + 1) n ys) e
