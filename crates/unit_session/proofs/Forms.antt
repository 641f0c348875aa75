-- The limit in an answer, as the code finds it.
use Rattle.std.proofs.Common.{◌≡◌, ℕ, ◌+◌, ◌*◌, List, [], ◌∷◌, Result, Ok, Err, IfOk, min, refl, ◌∙◌, ap, arith}
use Rattle.flash_base.specs.Numbers.{number_of, number_after}
use Rattle.unit_session.specs.Onward.{cap_after, cap_of}

cap_from : (n : ℕ) (xs : List ℕ) → cap_after (min n 65535) xs ≡ min (number_after n xs) 65535
cap_from n [] = refl
cap_from n (x ∷ xs) =
    let e : min (min n 65535 * 256 + x) 65535 ≡ min (n * 256 + x) 65535 = omega arith in
    ap (λ (m : ℕ). cap_after m xs) e ∙ cap_from (n * 256 + x) xs

pub cap_is : (xs : List ℕ) → cap_of xs ≡ min (number_of xs) 65535
cap_is xs = cap_from 0 xs

pub ok_is : {E : Type 0} (r : Result (List ℕ) E) (xs ys : List ℕ) → IfOk r (λ b. b ≡ xs) → xs ≡ ys → IfOk r (λ b. b ≡ ys)
ok_is {E} (Ok b) xs ys is e = is ∙ e
ok_is {E} (Err x) xs ys is e = tt
