-- The base behind some lines is one.
use Rattle.std.proofs.Common.{suc, false, ◌≡◌, ℕ, ◌*◌, ◌%◌, ◌⊎◌, List, [], ◌∷◌, ◌++◌, length, sum, cond, eqb, Result, Ok, Err, refl, sym, ap, ◌∙◌, subst, inl, inr, arith, append_assoc}
use Rattle.std.proofs.lemmas.Bool.{cases_Bool, eqb-true, eq-eqb, ne_eqb, false≢true}
use Rattle.std.proofs.lemmas.Option.{same_Some}
use Rattle.rec_text.specs.Digits.{bytes_of}
use Rattle.rec_text.specs.declared.fault.RecFault.{RecFault}
use Rattle.hex_rec.specs.Record.{checked, record_of}
use Rattle.hex_rec.specs.HexText.{IsRecord, kind_of, value_of, Sets, SetNone, HasBase}
use Rattle.hex_rec.specs.declared.base.Base.{Base}
use Rattle.hex_rec.specs.declared.base.Base.TheVariants.{Linear, Segment}
use Rattle.hex_rec.proofs.Shapes.{record_ok}

abbrev tail_of : List ℕ → List ℕ
tail_of [] = []
tail_of (x ∷ xs) = xs

pub same_record : (line bytes other : List ℕ) → IsRecord line bytes → IsRecord line other → bytes ≡ other
same_record line bytes other r s =
    let d : r.digits ≡ s.digits = ap tail_of (sym r.colon ∙ s.colon) in
    same_Some bytes other (sym r.spelled ∙ ap bytes_of d ∙ s.spelled)

pub no_record : (bytes : List ℕ) → IsRecord [] bytes → ⊥
no_record bytes r = let n : 0 ≡ suc (length r.digits) = ap length r.colon in omega arith

pub record_is : (n : ℕ) (line bytes : List ℕ) → IsRecord line bytes → record_of n line ≡ Ok bytes
record_is n line bytes r =
    let form = r.form in
    ap (record_of n) r.colon ∙ ap (checked n) r.spelled ∙ rw (form, eq-eqb (sum bytes % 256) 0 r.checked) refl

-- what a record makes the base
abbrev pub set_of : List ℕ → Base → Base
set_of bytes b = cond (eqb (kind_of bytes) 2) (Segment (value_of bytes * 16)) (cond (eqb (kind_of bytes) 4) (Linear (value_of bytes * 65536)) b)

sets_is : (bytes : List ℕ) (b x : Base) → Sets bytes x → set_of bytes b ≡ x
sets_is bytes b (Segment base) s = rw (eq-eqb (kind_of bytes) 2 s.0) (ap Segment (sym s.1))
sets_is bytes b (Linear base) s =
    let k : kind_of bytes ≡ 4 = s.0 in
    rw (ne_eqb (kind_of bytes) 2 (λ e. omega arith), eq-eqb (kind_of bytes) 4 k) (ap Linear (sym s.1))

set_none : (bytes : List ℕ) → eqb (kind_of bytes) 2 ≡ false → eqb (kind_of bytes) 4 ≡ false → (x : Base) → Sets bytes x → ⊥
set_none bytes two four (Segment base) s = false≢true (sym two ∙ eq-eqb (kind_of bytes) 2 s.0)
set_none bytes two four (Linear base) s = false≢true (sym four ∙ eq-eqb (kind_of bytes) 4 s.0)

-- a record makes the base another, or leaves it
pub sets_or : (bytes : List ℕ) (b : Base) → Sets bytes (set_of bytes b) ⊎ ((set_of bytes b ≡ b) × ((x : Base) → Sets bytes x → ⊥))
sets_or bytes b =
    elim (cases_Bool (eqb (kind_of bytes) 2)) [
      | inl two ↦ inl (subst (Sets bytes) (sym (ap (λ t. cond t (Segment (value_of bytes * 16)) (cond (eqb (kind_of bytes) 4) (Linear (value_of bytes * 65536)) b)) two)) (eqb-true (kind_of bytes) 2 two, refl))
      | inr other ↦
          elim (cases_Bool (eqb (kind_of bytes) 4)) [
            | inl four ↦
                let is : set_of bytes b ≡ Linear (value_of bytes * 65536) = rw (other, four) refl in
                inl (subst (Sets bytes) (sym is) (eqb-true (kind_of bytes) 4 four, refl))
            | inr none ↦ inr (rw (other, none) refl, set_none bytes other none)
          ]
    ]

-- ------ one line more
SetNone-push : (ls : List (List ℕ)) (line : List ℕ) → SetNone ls → ((bytes : List ℕ) (base : Base) → IsRecord line bytes → Sets bytes base → ⊥) → SetNone (ls ++ (line ∷ []))
SetNone-push [] line s none = (none, tt)
SetNone-push (l ∷ ls) line s none = (s.0, SetNone-push ls line s.1 none)

pub base_keep : (front : List (List ℕ)) (line : List ℕ) (b : Base) → HasBase front b → ((bytes : List ℕ) (base : Base) → IsRecord line bytes → Sets bytes base → ⊥) → HasBase (front ++ (line ∷ [])) b
base_keep front line b (inl h) none = inl (SetNone-push front line h.0 none, h.1)
base_keep front line b (inr h) none =
    let (early, l, late, bytes, whole, r, sets, s) = h in
    inr (early, l, late ++ (line ∷ []), bytes, ap (λ t. t ++ (line ∷ [])) whole ∙ append_assoc early (l ∷ late) (line ∷ []), r, sets, SetNone-push late line s none)

pub base_next : (front : List (List ℕ)) (line bytes : List ℕ) (b : Base) → HasBase front b → IsRecord line bytes → HasBase (front ++ (line ∷ [])) (set_of bytes b)
base_next front line bytes b h r =
    elim (sets_or bytes b) [
      | inl sets ↦ inr (front, line, [], bytes, refl, r, sets, tt)
      | inr none ↦ subst (HasBase (front ++ (line ∷ []))) (sym none.0) (base_keep front line b h (λ other x s sets. none.1 x (subst (λ t. Sets t x) (same_record line other bytes s r) sets)))
    ]

-- ------ the base is one
abbrev pick : Result (List ℕ) RecFault → Base → Base
pick (Ok bytes) b = set_of bytes b
pick (Err e) b = b

abbrev base_of : List ℕ → Base → Base
base_of line b = pick (record_of 0 line) b

abbrev after : Base → List (List ℕ) → Base
after b [] = b
after b (line ∷ more) = after (base_of line b) more

picked_none : (line : List ℕ) (b : Base) → ((bytes : List ℕ) (base : Base) → IsRecord line bytes → Sets bytes base → ⊥) → (r : Result (List ℕ) RecFault) → record_of 0 line ≡ r → pick r b ≡ b
picked_none line b none (Err e) is = refl
picked_none line b none (Ok bytes) is =
    elim (sets_or bytes b) [
      | inl sets ↦ absurd (none bytes (set_of bytes b) (record_ok 0 line bytes is) sets)
      | inr same ↦ same.0
    ]

after_none : (ls : List (List ℕ)) (b : Base) → SetNone ls → after b ls ≡ b
after_none [] b s = refl
after_none (line ∷ more) b s = ap (λ x. after x more) (picked_none line b s.0 (record_of 0 line) refl) ∙ after_none more b s.1

after-append : (xs ys : List (List ℕ)) (b : Base) → after b (xs ++ ys) ≡ after (after b xs) ys
after-append [] ys b = refl
after-append (x ∷ xs) ys b = after-append xs ys (base_of x b)

base_is : (front : List (List ℕ)) (b : Base) → HasBase front b → after (Linear 0) front ≡ b
base_is front b (inl h) = after_none front (Linear 0) h.0 ∙ sym h.1
base_is front b (inr h) =
    let (early, l, late, bytes, whole, r, sets, s) = h in
    ap (after (Linear 0)) whole
    ∙ after-append early (l ∷ late) (Linear 0)
    ∙ after_none late (base_of l (after (Linear 0) early)) s
    ∙ ap (λ x. pick x (after (Linear 0) early)) (record_is 0 l bytes r)
    ∙ sets_is bytes (after (Linear 0) early) b sets

pub one_base : (front : List (List ℕ)) (x y : Base) → HasBase front x → HasBase front y → x ≡ y
one_base front x y h k = sym (base_is front x h) ∙ base_is front y k
