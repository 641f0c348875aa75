-- The bytes of a line.
use Rattle.std.proofs.Common.{◌≡◌, ℕ, ◌+◌, ◌*◌, ◌<◌, List, ◌∷◌, length, get_or, Option, Some, None, Err, refl, ap, ◌∙◌, arith}
use Rattle.std.proofs.lemmas.Bool.{ne_eqb, eq-eqb}
use Rattle.rec_text.specs.Digits.{bytes_of}
use Rattle.rec_text.specs.declared.fault.RecFault.TheVariants.{BadLine}
use Rattle.rec_text.proofs.Spelled.{length-bytes_of, first_small}
use Rattle.hex_rec.specs.Record.{checked, record_of}

-- bytes of another number than their first one says
no_record : (n : ℕ) (bytes : List ℕ) → (length bytes ≡ get_or bytes 0 0 + 5 → ⊥) → checked n (Some bytes) ≡ Err (BadLine n)
no_record n bytes h = rw (ne_eqb (length bytes) (get_or bytes 0 0 + 5) h) refl

checked_by : (n : ℕ) (digits : List ℕ) (o : Option (List ℕ)) → bytes_of digits ≡ o → ((bs : List ℕ) → bytes_of digits ≡ Some bs → length bs ≡ get_or bs 0 0 + 5 → ⊥) → checked n o ≡ Err (BadLine n)
checked_by n digits None e h = refl
checked_by n digits (Some bs) e h = no_record n bs (h bs e)

-- digits that spell no bytes, or too many
pub none_spelled : (n : ℕ) (digits : List ℕ) → ((bs : List ℕ) → bytes_of digits ≡ Some bs → 260 < length bs) → checked n (bytes_of digits) ≡ Err (BadLine n)
none_spelled n digits h = checked_by n digits (bytes_of digits) refl (λ bs e is.
    let l = h bs e in
    let s = first_small digits bs e in
    omega arith)

pub few_spelled : (n : ℕ) (digits : List ℕ) (size : ℕ) → length digits ≡ 2 * size → size < 5 → checked n (bytes_of digits) ≡ Err (BadLine n)
few_spelled n digits size two few = checked_by n digits (bytes_of digits) refl (λ bs e is. let l = length-bytes_of digits bs e in omega arith)

pub colon_record : (n c : ℕ) (digits line : List ℕ) → line ≡ c ∷ digits → c ≡ 58 → record_of n line ≡ checked n (bytes_of digits)
colon_record n c digits line e is = ap (record_of n) e ∙ rw (eq-eqb c 58 is) refl
