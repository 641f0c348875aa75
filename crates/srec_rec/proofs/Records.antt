-- The bytes of a line.
use Rattle.std.proofs.Common.{◌≡◌, ℕ, ◌+◌, ◌-◌, ◌^◌, ◌<◌, ◌≤◌, ◌&&◌, Bool, true, false, List, [], ◌∷◌, length, drop, get_or, Option, Some, None, Err, refl, inl, inr, arith, eqb}
use Rattle.std.proofs.lemmas.Bool.{cases_Bool, ne_eqb, eq-eqb, eqb-true, leb-true, lt-leb, le-leb, false≢true}
use Rattle.std.specs.Prelude.{nat_le}
use Rattle.rec_text.specs.Digits.{bytes_of}
use Rattle.rec_text.specs.declared.fault.RecFault.TheVariants.{BadLine}
use Rattle.rec_text.proofs.Spelled.{first_small}
use Rattle.srec_rec.specs.Record.{has_data, width, number_at, size_of, is_count, is_record, checked, record_of}

both : (a b : Bool) → (a && b) ≡ true → (a ≡ true) × (b ≡ true)
both true b h = (refl, h)
both false b h = absurd (false≢true h)

count_fits : (kind w count : ℕ) → is_count kind w count ≡ true → w + 1 ≤ count
count_fits kind w count h =
    elim (cases_Bool (has_data kind)) [
      | inl is ↦ leb-true (w + 1) count (rw is at h)
      | inr is ↦ let e = eqb-true count (w + 1) (rw is at h) in omega arith
    ]

-- what the form of a record says
pub form : (kind : ℕ) (bytes : List ℕ) → is_record kind bytes ≡ true
    → (length bytes ≡ get_or bytes 0 0 + 1) × (2 ≤ width kind) × (width kind + 1 ≤ get_or bytes 0 0) × (number_at (width kind) bytes + size_of (width kind) bytes ≤ 2 ^ 32)
form kind bytes h =
    let a = both (eqb (length bytes) (get_or bytes 0 0 + 1)) _ h in
    let b = both (nat_le 2 (width kind)) _ a.1 in
    let c = both (is_count kind (width kind) (get_or bytes 0 0)) _ b.1 in
    (eqb-true (length bytes) (get_or bytes 0 0 + 1) a.0, leb-true 2 (width kind) b.0, count_fits kind (width kind) (get_or bytes 0 0) c.0, leb-true (number_at (width kind) bytes + size_of (width kind) bytes) (2 ^ 32) c.1)

no_record : (n kind : ℕ) (bytes : List ℕ) → (length bytes ≡ get_or bytes 0 0 + 1 → ⊥) → checked n kind (Some bytes) ≡ Err (BadLine n)
no_record n kind bytes h = rw (ne_eqb (length bytes) (get_or bytes 0 0 + 1) h) refl

checked_by : (n kind : ℕ) (digits : List ℕ) (o : Option (List ℕ)) → bytes_of digits ≡ o → ((bs : List ℕ) → bytes_of digits ≡ Some bs → length bs ≡ get_or bs 0 0 + 1 → ⊥) → checked n kind o ≡ Err (BadLine n)
checked_by n kind digits None e h = refl
checked_by n kind digits (Some bs) e h = no_record n kind bs (h bs e)

-- digits that spell no bytes, or too many
pub none_spelled : (n kind : ℕ) (digits : List ℕ) → ((bs : List ℕ) → bytes_of digits ≡ Some bs → 260 < length bs) → checked n kind (bytes_of digits) ≡ Err (BadLine n)
none_spelled n kind digits h = checked_by n kind digits (bytes_of digits) refl (λ bs e is.
    let l = h bs e in
    let s = first_small digits bs e in
    omega arith)

-- ------ how a line begins
pub too_short : (n : ℕ) (line : List ℕ) → length line < 2 → record_of n line ≡ Err (BadLine n)
too_short n [] h = refl
too_short n (c ∷ []) h = refl
too_short n (c ∷ k ∷ digits) h = absurd (omega arith)

pub other_letter : (n : ℕ) (line : List ℕ) → 2 ≤ length line → (get_or line 0 0 ≡ 83 → ⊥) → record_of n line ≡ Err (BadLine n)
other_letter n [] l h = absurd (omega arith)
other_letter n (c ∷ []) l h = refl
other_letter n (c ∷ k ∷ digits) l h = rw (ne_eqb c 83 h) refl

pub no_kind : (n : ℕ) (line : List ℕ) → 2 ≤ length line → get_or line 0 0 ≡ 83 → get_or line 1 0 < 48 → record_of n line ≡ Err (BadLine n)
no_kind n [] l s h = absurd (omega arith)
no_kind n (c ∷ []) l s h = refl
no_kind n (c ∷ k ∷ digits) l s h = rw (eq-eqb c 83 s, lt-leb 48 k h) refl

pub begins : (n : ℕ) (line : List ℕ) → 2 ≤ length line → get_or line 0 0 ≡ 83 → 48 ≤ get_or line 1 0 → record_of n line ≡ checked n (get_or line 1 0 - 48) (bytes_of (drop 2 line))
begins n [] l s h = absurd (omega arith)
begins n (c ∷ []) l s h = absurd (omega arith)
begins n (c ∷ k ∷ digits) l s h = rw (eq-eqb c 83 s, le-leb 48 k h) refl
