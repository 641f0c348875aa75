-- The number that digits say, digit by digit.
use Rattle.std.proofs.Common.{◌≡◌, ◌∙◌, refl, ap, ℕ, ◌+◌, ◌*◌, ◌<◌, ◌≤◌, List, [], ◌∷◌, Option, Some, None, option_and_then, cond, nat_lt, nat_le, length, ◌^◌, true, false, arith}
use Rattle.std.proofs.Math.Nat.{le-mul_of_pos_right}
use Rattle.std.proofs.lemmas.Bool.Decides.{nat_tests}
use Rattle.text_forms.specs.Numbers.{value_after, if_below, decimal_digit, hex_digit, hex_text, hex_value, decimal_text, decimal_value}

pub one_more : (digit : ℕ → Option ℕ) (base n c d : ℕ) (cs : List ℕ) → digit c ≡ Some d → value_after digit base n (c ∷ cs) ≡ value_after digit base (n * base + d) cs
one_more digit base n c d cs h = rw h refl

pub no_digit : (digit : ℕ → Option ℕ) (base n c : ℕ) (cs : List ℕ) → digit c ≡ None → value_after digit base n (c ∷ cs) ≡ None
no_digit digit base n c cs h = rw h refl

-- once beyond the limit, further digits do not lead back
pub beyond : (digit : ℕ → Option ℕ) (base n limit : ℕ) (cs : List ℕ) → 1 ≤ base → limit ≤ n → if_below limit (value_after digit base n cs) ≡ None
beyond digit base n limit [] b h = let test : nat_lt n limit ≡ false = grind (arith, nat_tests, h) in rw test refl
beyond digit base n limit (c ∷ cs) b h =
    elim (digit c) as (λ o. if_below limit (option_and_then (λ d. value_after digit base (n * base + d) cs) o) ≡ None)
    [ None ↦ refl | Some d ↦ beyond digit base (n * base + d) limit cs b (grows n base d limit b h) ]
  where
    grows : (n base d limit : ℕ) → 1 ≤ base → limit ≤ n → limit ≤ n * base + d
    grows n base d limit b h = let more = le-mul_of_pos_right {m = base} n b in omega (arith, more, h)

-- the next digit leads beyond the limit
pub too_great : (digit : ℕ → Option ℕ) (base n c d limit : ℕ) (cs : List ℕ) → digit c ≡ Some d → 1 ≤ base → None ≡ if_below limit (Some (n * base + d)) → if_below limit (value_after digit base n (c ∷ cs)) ≡ None
too_great digit base n c d limit cs e b h = rw e (beyond digit base (n * base + d) limit cs b (over (n * base + d) limit h))
  where
    over : (m limit : ℕ) → None ≡ if_below limit (Some m) → limit ≤ m
    over m limit h = grind (arith, nat_tests, h)

pub whole_number : (n limit : ℕ) → n < limit → if_below limit (Some n) ≡ Some n
whole_number n limit h = let test : nat_lt n limit ≡ true = grind (arith, nat_tests, h) in rw test refl

pub hex_text_is : (text : List ℕ) → 0 < length text → length text ≤ 16 → hex_text text ≡ if_below (2 ^ 64) (hex_value text)
hex_text_is text a b = let some : nat_lt 0 (length text) ≡ true = grind (arith, nat_tests, a) in let few : nat_le (length text) 16 ≡ true = grind (arith, nat_tests, b) in rw (some, few) refl

pub decimal_text_is : (text : List ℕ) → 0 < length text → decimal_text text ≡ if_below (2 ^ 64) (decimal_value text)
decimal_text_is text a = let some : nat_lt 0 (length text) ≡ true = grind (arith, nat_tests, a) in rw some refl
