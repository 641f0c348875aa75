-- Digits that are written are read as what they say.
use Rattle.std.proofs.Common.{◌≡◌, inl, inr, ℕ, zero, suc, ◌+◌, ◌*◌, ◌/◌, ◌%◌, ◌^◌, ◌<◌, ◌≤◌, Bool, true, false, List, [], ◌∷◌, ◌++◌, Option, Some, None, refl, ◌∙◌, ap, arith, length}
use Rattle.std.specs.Prelude.{nat_lt, nat_le, slice_index, option_and_then, unwrap_or, ◌==◌, ◌&&◌, Ok, if◌then◌else◌}
use Rattle.std.proofs.lemmas.Bool.{and_from, and_parts, cases_Bool, cases_lt, eqb-true, lt-ltb, le-leb, ltb-true}
use Rattle.hex.specs.Hex.{IsBytes, encode_upper, encode_with, upper_digits}
use Rattle.hex.proofs.HexLemmas.{decode_of-encode_upper, length-encode_with}
use Rattle.flash_base.specs.Numbers.{big_endian, each_below, number_after, number_of}
use Rattle.uds_codec.proofs.Numbers.{big_length, big_number}
use Rattle.text_forms.specs.Bytes.{bytes_text, decoded}
use Rattle.text_forms.specs.Numbers.{hex_digit, hex_text, if_below, value_after}
use Rattle.text_forms.proofs.Digits.{hex_text_is, one_more, whole_number}
use Rattle.unit_model.specs.RegionTests.{LIMIT}
use Rattle.vehicle_file.specs.Fields.{◌>=>◌, any_bytes, bytes_to, bytes_up_to, end_place, four, four_digits, of_form, only_if, place, two, whole}
use Rattle.vehicle_text.specs.Forms.{bytes_data, four_data, four_text, place_data, place_text, two_data, whole_data}

-- ------ the sixteen digits
abbrev is_read : ℕ → Bool
is_read d = unwrap_or (hex_digit (slice_index upper_digits d)) 99 == d

pub one_below : (p : ℕ → Bool) (n k : ℕ) → each_below n p ≡ true → k < n → p k ≡ true
one_below p zero k all lt = absurd (omega arith)
one_below p (suc n) k all lt =
    let parts = and_parts (each_below n p) (p n) all in
    elim (cases_lt k n) [
      | inl below ↦ one_below p n k parts.0 below
      | inr top ↦ let e : k ≡ n = omega arith in rw e parts.1
    ]

said : (o : Option ℕ) (d : ℕ) → d < 16 → unwrap_or o 99 ≡ d → o ≡ Some d
said None d lt e = absurd (omega arith)
said (Some n) d lt e = ap Some e

pub digit_is : (d : ℕ) → d < 16 → hex_digit (slice_index upper_digits d) ≡ Some d
digit_is d lt = said (hex_digit (slice_index upper_digits d)) d lt (eqb-true (unwrap_or (hex_digit (slice_index upper_digits d)) 99) d (one_below is_read 16 d refl lt))

-- ------ numbers
pub value_is : (n : ℕ) (bs : List ℕ) → IsBytes bs → value_after hex_digit 16 n (encode_with upper_digits bs) ≡ Some (number_after n bs)
unfolding encode_with
value_is n [] are = refl
value_is n (b ∷ rest) are =
    let fits : b < 256 = are 0 in
    let high : hex_digit (slice_index upper_digits (b / 16)) ≡ Some (b / 16) = digit_is (b / 16) (omega arith) in
    let low : hex_digit (slice_index upper_digits (b % 16)) ≡ Some (b % 16) = digit_is (b % 16) (omega arith) in
    let sum : (n * 16 + b / 16) * 16 + b % 16 ≡ n * 256 + b = omega arith in
    one_more hex_digit 16 n (slice_index upper_digits (b / 16)) (b / 16) (slice_index upper_digits (b % 16) ∷ encode_with upper_digits rest) high
    ∙ one_more hex_digit 16 (n * 16 + b / 16) (slice_index upper_digits (b % 16)) (b % 16) (encode_with upper_digits rest) low
    ∙ ap (λ (m : ℕ). value_after hex_digit 16 m (encode_with upper_digits rest)) sum ∙ value_is (n * 256 + b) rest (λ k. are (suc k))

pub text_is : (bs : List ℕ) (n : ℕ) → IsBytes bs → 1 ≤ length bs → length bs ≤ 8 → number_of bs ≡ n → n < 2 ^ 64 → hex_text (encode_upper bs) ≡ Some n
text_is bs n are some few is low =
    let len = length-encode_with upper_digits bs in
    hex_text_is (encode_upper bs) (omega (arith, len, some)) (omega (arith, len, few)) ∙ ap (if_below (2 ^ 64)) (value_is 0 bs are ∙ ap Some is) ∙ whole_number n (2 ^ 64) low

bytes_snoc : (xs : List ℕ) (b : ℕ) → IsBytes xs → b < 256 → IsBytes (xs ++ b ∷ [])
bytes_snoc [] b are lt zero = lt
bytes_snoc [] b are lt (suc i) = are 0
bytes_snoc (x ∷ xs) b are lt zero = are 0
bytes_snoc (x ∷ xs) b are lt (suc i) = bytes_snoc xs b (λ k. are (suc k)) lt i

no_bytes : IsBytes []
no_bytes i = omega arith

big_bytes : (n x : ℕ) → IsBytes (big_endian n x)
big_bytes zero x = no_bytes
big_bytes (suc n) x = bytes_snoc (big_endian n (x / 256)) (x % 256) (big_bytes n (x / 256)) (omega arith)

pair_bytes : (a b : ℕ) → a < 256 → b < 256 → IsBytes (a ∷ b ∷ [])
pair_bytes a b p q zero = p
pair_bytes a b p q (suc zero) = q
pair_bytes a b p q (suc (suc i)) = no_bytes i

-- ------ the forms of values
pub two_is : (n : ℕ) → n < 256 → two (two_data n) ≡ Ok n
unfolding encode_with
two_is n lt =
    let high : hex_digit (slice_index upper_digits (n / 16)) ≡ Some (n / 16) = digit_is (n / 16) (omega arith) in
    let low : hex_digit (slice_index upper_digits (n % 16)) ≡ Some (n % 16) = digit_is (n % 16) (omega arith) in
    let sum : n / 16 * 16 + n % 16 ≡ n = omega arith in
    ap of_form (ap (λ o. option_and_then (λ high. option_and_then (λ low. Some (high * 16 + low)) (hex_digit (slice_index upper_digits (n % 16)))) o) high
    ∙ ap (λ o. option_and_then (λ low. Some (n / 16 * 16 + low)) o) low ∙ ap Some sum)

pub four_digits_are : (n : ℕ) → n < 65536 → four_digits (four_text n) ≡ Some n
four_digits_are n lt =
    let four_long : length (four_text n) ≡ 4 = length-encode_with upper_digits (n / 256 ∷ n % 256 ∷ []) in
    let sum : (0 * 256 + n / 256) * 256 + n % 256 ≡ n = omega arith in
    let text = text_is (n / 256 ∷ n % 256 ∷ []) n (pair_bytes (n / 256) (n % 256) (omega arith) (omega arith)) (omega arith) (omega arith) sum (omega arith) in
    let low : nat_lt n 65536 ≡ true = lt-ltb n 65536 lt in
    ap (λ (k : ℕ). if k == 4 then (hex_text (four_text n) >=> λ m. only_if (nat_lt m 65536) m) else None) four_long
    ∙ ap (λ o. o >=> λ m. only_if (nat_lt m 65536) m) text ∙ ap (λ (b : Bool). only_if b n) low

pub four_is : (n : ℕ) → n < 65536 → four (four_data n) ≡ Ok n
four_is n lt = ap of_form (four_digits_are n lt)

low_text : (n : ℕ) → n < LIMIT → hex_text (place_text n) ≡ Some n
low_text n lt =
    let low : nat_lt n LIMIT ≡ true = lt-ltb n LIMIT lt in
    let len = big_length 5 n in
    ap (λ (b : Bool). hex_text (if b then encode_upper (big_endian 5 n) else encode_upper (big_endian 8 n))) low
    ∙ text_is (big_endian 5 n) n (big_bytes 5 n) (omega (arith, len)) (omega (arith, len)) (big_number 5 n lt) (omega (arith, lt))

high_text : (n : ℕ) → LIMIT ≤ n → n < 2 ^ 64 → hex_text (place_text n) ≡ Some n
high_text n ge lt =
    let high : nat_lt n LIMIT ≡ false = not_low n ge in
    let len = big_length 8 n in
    ap (λ (b : Bool). hex_text (if b then encode_upper (big_endian 5 n) else encode_upper (big_endian 8 n))) high
    ∙ text_is (big_endian 8 n) n (big_bytes 8 n) (omega (arith, len)) (omega (arith, len)) (big_number 8 n lt) lt
  where
    not_low : (n : ℕ) → LIMIT ≤ n → nat_lt n LIMIT ≡ false
    not_low n ge = elim (cases_Bool (nat_lt n LIMIT)) [ inl y ↦ absurd (omega (arith, ge, ltb-true n LIMIT y)) | inr n ↦ n ]

pub place_is : (n : ℕ) → n < LIMIT → place (place_data n) ≡ Ok n
place_is n lt = ap of_form (ap (λ o. o >=> λ m. only_if (nat_lt m LIMIT) m) (low_text n lt) ∙ ap (λ (b : Bool). only_if b n) (lt-ltb n LIMIT lt))

pub end_place_is : (n : ℕ) → n ≤ LIMIT → end_place (place_data n) ≡ Ok n
end_place_is n le = ap of_form (ap (λ o. o >=> λ m. only_if (nat_le m LIMIT) m) text ∙ ap (λ (b : Bool). only_if b n) (le-leb n LIMIT le))
  where
    text : hex_text (place_text n) ≡ Some n
    text = elim (cases_lt n LIMIT) [ inl lt ↦ low_text n lt | inr ge ↦ high_text n ge (omega (arith, le)) ]

bytes_text_is : (bs : List ℕ) → IsBytes bs → bytes_text (encode_upper bs) ≡ Some bs
bytes_text_is bs are = ap decoded (decode_of-encode_upper bs are)

pub any_bytes_are : (bs : List ℕ) → IsBytes bs → any_bytes (bytes_data bs) ≡ Ok bs
any_bytes_are bs are = ap of_form (bytes_text_is bs are)

pub bytes_to_are : (most : ℕ) (bs : List ℕ) → IsBytes bs → (nat_le 1 (length bs) && nat_le (length bs) most) ≡ true → bytes_to most (bytes_data bs) ≡ Ok bs
bytes_to_are most bs are few =
    ap of_form (ap (λ o. o >=> λ bytes. only_if (nat_le 1 (length bytes) && nat_le (length bytes) most) bytes) (bytes_text_is bs are) ∙ ap (λ (b : Bool). only_if b bs) few)

pub bytes_up_to_are : (most : ℕ) (bs : List ℕ) → IsBytes bs → nat_le (length bs) most ≡ true → bytes_up_to most (bytes_data bs) ≡ Ok bs
bytes_up_to_are most bs are few =
    ap of_form (ap (λ o. o >=> λ bytes. only_if (nat_le (length bytes) most) bytes) (bytes_text_is bs are) ∙ ap (λ (b : Bool). only_if b bs) few)

pub whole_is : (least most n : ℕ) → (nat_le least n && nat_le n most) ≡ true → whole least most (whole_data n) ≡ Ok n
whole_is least most n within = ap (λ (b : Bool). of_form (only_if b n)) within

pub from_zero : (n most : ℕ) → nat_le n most ≡ true → (nat_le 0 n && nat_le n most) ≡ true
from_zero n most low = and_from (nat_le 0 n) (nat_le n most) (le-leb 0 n (omega arith)) low
