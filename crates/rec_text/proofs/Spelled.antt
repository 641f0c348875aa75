-- The bytes that digits spell.
use Rattle.std.proofs.Common.{suc, ◌≡◌, ℕ, ◌+◌, ◌*◌, ◌<◌, ◌≤◌, List, [], ◌∷◌, ◌++◌, length, sum, take, drop, set, get_or, Option, Some, None, refl, sym, ap, ◌∙◌, arith}
use Rattle.std.proofs.lemmas.List.{append_assoc, append-nil, drop_more, take_more_set}
use Rattle.std.proofs.lemmas.Option.{none-some, same_Some}
use Rattle.std.proofs.lemmas.Bool.Decides.{nat_tests}
use Rattle.rec_text.specs.Digits.{digit_of, byte_of, with_byte, bytes_of}
use Rattle.rec_text.specs.Lanes.{behind, Spell, IsBlock}
use Rattle.std.proofs.lemmas.List.Sums.{sum_by-append}

pub behind_none : (o : Option (List ℕ)) → o ≡ behind [] o
behind_none None = refl
behind_none (Some bs) = refl

behind-with_byte : (front : List ℕ) (b : ℕ) (o : Option (List ℕ)) → behind front (with_byte (Some b) o) ≡ behind (front ++ b ∷ []) o
behind-with_byte front b None = refl
behind-with_byte front b (Some bs) = ap Some (sym (append_assoc front (b ∷ []) bs))

-- two digits more
pub digits_more : (digits : List ℕ) (k : ℕ) → 2 * k + 1 < length digits
    → bytes_of (drop (2 * k) digits) ≡ with_byte (byte_of (digit_of (get_or digits (2 * k) 0)) (digit_of (get_or digits (2 * k + 1) 0))) (bytes_of (drop (2 * (k + 1)) digits))
digits_more digits k h =
    let e : 2 * k + 1 + 1 ≡ 2 * (k + 1) = omega arith in
    ap bytes_of (drop_more digits (2 * k) 0 (omega arith) ∙ ap (λ l. get_or digits (2 * k) 0 ∷ l) (drop_more digits (2 * k + 1) 0 h ∙ ap (λ n. get_or digits (2 * k + 1) 0 ∷ drop n digits) e))

pub spelled_more : (digits out : List ℕ) (k b : ℕ) → 2 * k + 1 < length digits → k < length out → Some b ≡ byte_of (digit_of (get_or digits (2 * k) 0)) (digit_of (get_or digits (2 * k + 1) 0))
    → behind (take k out) (bytes_of (drop (2 * k) digits)) ≡ behind (take (k + 1) (set out k b)) (bytes_of (drop (2 * (k + 1)) digits))
spelled_more digits out k b h l is =
    ap (behind (take k out)) (digits_more digits k h ∙ ap (λ o. with_byte o (bytes_of (drop (2 * (k + 1)) digits))) (sym is))
    ∙ behind-with_byte (take k out) b (bytes_of (drop (2 * (k + 1)) digits))
    ∙ ap (λ f. behind f (bytes_of (drop (2 * (k + 1)) digits))) (sym (take_more_set out k b l))

-- as many digits more as bytes
pub spelled_many : (digits front bs : List ℕ) (k : ℕ) → 2 * k + 2 * length bs ≤ length digits → Spell digits (2 * k) bs
    → behind front (bytes_of (drop (2 * k) digits)) ≡ behind (front ++ bs) (bytes_of (drop (2 * (k + length bs)) digits))
spelled_many digits front [] k h s =
    let z : 2 * k ≡ 2 * (k + 0) = omega arith in
    ap (λ f. behind f (bytes_of (drop (2 * k) digits))) (sym (append-nil front)) ∙ ap (λ n. behind (front ++ []) (bytes_of (drop n digits))) z
spelled_many digits front (b ∷ bs) k h s =
    let x : 2 * k + 2 * 0 ≡ 2 * k = omega arith in
    let y : 2 * k + (2 * 0 + 1) ≡ 2 * k + 1 = omega arith in
    let z : 2 * (k + 1 + length bs) ≡ 2 * (k + suc (length bs)) = omega arith in
    let first : Some b ≡ byte_of (digit_of (get_or digits (2 * k) 0)) (digit_of (get_or digits (2 * k + 1) 0))
    = s 0 (omega arith) ∙ ap (λ n. byte_of (digit_of (get_or digits n 0)) (digit_of (get_or digits (2 * k + (2 * 0 + 1)) 0))) x ∙ ap (λ n. byte_of (digit_of (get_or digits (2 * k) 0)) (digit_of (get_or digits n 0))) y in
    ap (behind front) (digits_more digits k (omega arith) ∙ ap (λ o. with_byte o (bytes_of (drop (2 * (k + 1)) digits))) (sym first))
    ∙ behind-with_byte front b (bytes_of (drop (2 * (k + 1)) digits))
    ∙ spelled_many digits (front ++ b ∷ []) bs (k + 1) (omega arith) (later digits b bs k s)
    ∙ ap (λ f. behind f (bytes_of (drop (2 * (k + 1 + length bs)) digits))) (append_assoc front (b ∷ []) bs)
    ∙ ap (λ n. behind (front ++ (b ∷ bs)) (bytes_of (drop n digits))) z
  where
    later : (digits : List ℕ) (b : ℕ) (bs : List ℕ) (k : ℕ) → Spell digits (2 * k) (b ∷ bs) → Spell digits (2 * (k + 1)) bs
    later digits b bs k s j l =
        let x : 2 * k + 2 * suc j ≡ 2 * (k + 1) + 2 * j = omega arith in
        let y : 2 * k + (2 * suc j + 1) ≡ 2 * (k + 1) + (2 * j + 1) = omega arith in
        s (suc j) (omega arith)
        ∙ ap (λ n. byte_of (digit_of (get_or digits n 0)) (digit_of (get_or digits (2 * k + (2 * suc j + 1)) 0))) x
        ∙ ap (λ n. byte_of (digit_of (get_or digits (2 * (k + 1) + 2 * j) 0)) (digit_of (get_or digits n 0))) y

pub block_more : (digits old new : List ℕ) (k total : ℕ) → 2 * k + 32 ≤ length digits → IsBlock digits k old new total
    → behind (take k old) (bytes_of (drop (2 * k) digits)) ≡ behind (take (k + 16) new) (bytes_of (drop (2 * (k + 16)) digits))
block_more digits old new k total room b =
    let z : 2 * (k + length b.bytes) ≡ 2 * (k + 16) = omega (arith, b.size) in
    spelled_many digits (take k old) b.bytes k (omega (arith, b.size)) b.spell
    ∙ ap (λ n. behind (take k old ++ b.bytes) (bytes_of (drop n digits))) z
    ∙ ap (λ f. behind f (bytes_of (drop (2 * (k + 16)) digits))) (sym b.put)

pub block_sum : (digits old new : List ℕ) (k total : ℕ) → IsBlock digits k old new total → sum (take k old) + total ≡ sum (take (k + 16) new)
block_sum digits old new k total b =
    ap (λ t. sum (take k old) + t) b.summed ∙ sym (sum_by-append (λ x. x) (take k old) b.bytes) ∙ ap sum (sym b.put)

pub spelled_none : (digits out : List ℕ) (k : ℕ) → 2 * k + 1 < length digits → None ≡ byte_of (digit_of (get_or digits (2 * k) 0)) (digit_of (get_or digits (2 * k + 1) 0))
    → behind (take k out) (bytes_of (drop (2 * k) digits)) ≡ None
spelled_none digits out k h is =
    ap (behind (take k out)) (digits_more digits k h ∙ ap (λ o. with_byte o (bytes_of (drop (2 * (k + 1)) digits))) (sym is))

-- ------ lengths
with_byte_some : (o : Option ℕ) (r : Option (List ℕ)) (bs : List ℕ) → with_byte o r ≡ Some bs → (b : ℕ) × (t : List ℕ) × (o ≡ Some b) × (r ≡ Some t) × (b ∷ t ≡ bs)
with_byte_some None r bs e = absurd (none-some bs e)
with_byte_some (Some b) None bs e = absurd (none-some bs e)
with_byte_some (Some b) (Some t) bs e = (b, t, refl, refl, same_Some _ _ e)

pub length-bytes_of : (digits bs : List ℕ) → bytes_of digits ≡ Some bs → length digits ≡ 2 * length bs
length-bytes_of [] bs e = let n : 0 ≡ length bs = ap length (same_Some {A = List ℕ} [] bs e) in omega arith
length-bytes_of (c ∷ []) bs e = absurd (none-some bs e)
length-bytes_of (c ∷ d ∷ cs) bs e =
    let (b, t, p, r, same) = with_byte_some (byte_of (digit_of c) (digit_of d)) (bytes_of cs) bs e in
    let rest : length cs ≡ 2 * length t = length-bytes_of cs t r in
    let n : suc (length t) ≡ length bs = ap length same in
    omega arith

pub digit_small : (c d : ℕ) → digit_of c ≡ Some d → d < 16
digit_small c d e = grind (arith, nat_tests, e)

byte_small : (o p : Option ℕ) (b : ℕ) → ((d : ℕ) → o ≡ Some d → d < 16) → ((d : ℕ) → p ≡ Some d → d < 16) → byte_of o p ≡ Some b → b < 256
byte_small None p b s t e = absurd (none-some b e)
byte_small (Some h) None b s t e = absurd (none-some b e)
byte_small (Some h) (Some l) b s t e = let x = s h refl in let y = t l refl in let z : h * 16 + l ≡ b = same_Some _ _ e in omega arith

pub first_small : (digits bs : List ℕ) → bytes_of digits ≡ Some bs → get_or bs 0 0 < 256
first_small [] bs e = let n : 0 ≡ get_or bs 0 0 = ap (λ l. get_or l 0 0) (same_Some {A = List ℕ} [] bs e) in omega arith
first_small (c ∷ []) bs e = absurd (none-some bs e)
first_small (c ∷ d ∷ cs) bs e =
    let (b, t, p, r, same) = with_byte_some (byte_of (digit_of c) (digit_of d)) (bytes_of cs) bs e in
    let n : b ≡ get_or bs 0 0 = ap (λ l. get_or l 0 0) same in
    let small : b < 256 = byte_small (digit_of c) (digit_of d) b (digit_small c) (digit_small d) p in
    omega arith
