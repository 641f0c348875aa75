-- Counting in a table, and the place of an entry in it.
use Rattle.std.proofs.Common.{◌≡◌, inl, inr, ℕ, zero, suc, ◌+◌, ◌<◌, ◌≤◌, Bool, true, false, List, [], ◌∷◌, length, get_or, set, refl, sym, ◌∙◌, ap, subst, arith, lit<}
use Rattle.std.specs.Prelude.{◌==◌, ◌&&◌, ◌||◌, slice_index, ◌/◌, ◌%◌}
use Rattle.std.proofs.lemmas.Bool.{cases_Bool, cases_eq, cases_lt, and_parts, and_left, both_ways, eqb-true, eq-eqb, ltb-true}
use Rattle.std.proofs.lemmas.List.{get_or-set_same, get_or-set_other}
use Rattle.flash_plan.specs.declared.outcome.Entry.{Entry}
use Rattle.flash_plan.specs.declared.outcome.Entry.TheVariants.{Begun, Marked, Complete}
use Rattle.journal_model.specs.Records.{Form, slots_of, segments_of, total, names, body_of, unit_of}
use Rattle.journal_steps.specs.Append.{is_entry}
use Rattle.journal_steps.proofs.Slots.{below_at, below_from}
use Rattle.journal_steps.specs.Tables.{one_if, count_true, before, place_of, is_found, starts_of}

-- a full count: all are true
pub count_full : (xs : List Bool) → ((k : ℕ) → k < length xs → get_or xs k false ≡ true) → count_true xs ≡ length xs
count_full [] all = refl
count_full (b ∷ bs) all =
    let first : b ≡ true = all 0 (omega arith) in
    let rest : count_true bs ≡ length bs = count_full bs (λ k lt. all (suc k) (omega (arith, lt))) in
    let one : one_if b ≡ 1 = ap one_if first in
    omega (arith, one, rest)

one_le : (b : Bool) → one_if b ≤ 1
one_le true = omega arith
one_le false = omega arith

pub count_le : (xs : List Bool) → count_true xs ≤ length xs
count_le [] = omega arith
count_le (b ∷ bs) = omega (arith, one_le b, count_le bs)

pub count_lacks : (xs : List Bool) (i : ℕ) → i < length xs → get_or xs i false ≡ false → count_true xs < length xs
count_lacks [] i lt is = absurd (omega (arith, lt))
count_lacks (b ∷ bs) zero lt is = let none : one_if b ≡ 0 = ap one_if is in omega (arith, none, count_le bs)
count_lacks (b ∷ bs) (suc i) lt is = omega (arith, one_le b, count_lacks bs i (omega (arith, lt)) is)

pub count_set : (xs : List Bool) (i : ℕ) → i < length xs → get_or xs i false ≡ false → count_true (set xs i true) ≡ count_true xs + 1
count_set [] i lt is = absurd (omega (arith, lt))
count_set (b ∷ bs) zero lt is = let none : one_if b ≡ 0 = ap one_if is in omega (arith, none)
count_set (b ∷ bs) (suc i) lt is = omega (arith, count_set bs i (omega (arith, lt)) is)

pub is_itself : (e : Entry) → is_entry e e ≡ true
is_itself e = below_from 16 (λ j. slice_index (body_of e) j == slice_index (body_of e) j) (λ t tlt. eq-eqb _ _ refl)

-- two entries of one spelling are one
pub entry_of : (e x : Entry) → is_entry e x ≡ true → e ≡ x
entry_of e x same = at_bytes e x (byte 0 (lit< tt)) (byte 2 (lit< tt)) (byte 3 (lit< tt)) (byte 4 (lit< tt)) (byte 5 (lit< tt))
  where
    byte : (t : ℕ) → t < 16 → slice_index (body_of e) t ≡ slice_index (body_of x) t
    byte t lt = eqb-true _ _ (below_at 16 (λ j. slice_index (body_of e) j == slice_index (body_of x) j) same t lt)

    halves : (a b : ℕ) → a / 256 ≡ b / 256 → a % 256 ≡ b % 256 → a ≡ b
    halves a b high low = omega (arith, high, low)

    at_bytes : (e x : Entry) → slice_index (body_of e) 0 ≡ slice_index (body_of x) 0 → slice_index (body_of e) 2 ≡ slice_index (body_of x) 2 → slice_index (body_of e) 3 ≡ slice_index (body_of x) 3
        → slice_index (body_of e) 4 ≡ slice_index (body_of x) 4 → slice_index (body_of e) 5 ≡ slice_index (body_of x) 5 → e ≡ x
    at_bytes (Begun u) (Begun v) kind high low h l = ap (λ (w : ℕ). Begun w) (halves u v high low)
    at_bytes (Begun u) (Marked v t) kind high low h l = absurd (omega (arith, kind))
    at_bytes (Begun u) (Complete v) kind high low h l = absurd (omega (arith, kind))
    at_bytes (Marked u s) (Begun v) kind high low h l = absurd (omega (arith, kind))
    at_bytes (Marked u s) (Marked v t) kind high low h l = λ i. Marked (halves u v high low i) (halves s t h l i)
    at_bytes (Marked u s) (Complete v) kind high low h l = absurd (omega (arith, kind))
    at_bytes (Complete u) (Begun v) kind high low h l = absurd (omega (arith, kind))
    at_bytes (Complete u) (Marked v t) kind high low h l = absurd (omega (arith, kind))
    at_bytes (Complete u) (Complete v) kind high low h l = ap (λ (w : ℕ). Complete w) (halves u v high low)

-- ------ the places of the marks
pub before_below : (xs : List ℕ) (u s : ℕ) → s < get_or xs u 0 → before u xs + s < total xs
before_below [] u s lt = absurd (omega (arith, lt))
before_below (x ∷ xs) zero s lt = omega (arith, lt)
before_below (x ∷ xs) (suc u) s lt = omega (arith, before_below xs u s lt)

before_more : (xs : List ℕ) (u v : ℕ) → u < v → before u xs + get_or xs u 0 ≤ before v xs
before_more xs u zero lt = absurd (omega (arith, lt))
before_more [] zero (suc v) lt = omega arith
before_more [] (suc u) (suc v) lt = omega arith
before_more (x ∷ xs) zero (suc v) lt = omega arith
before_more (x ∷ xs) (suc u) (suc v) lt = omega (arith, before_more xs u v (omega (arith, lt)))

-- two marks of one place are of one unit
one_unit : (xs : List ℕ) (u v s t : ℕ) → s < get_or xs u 0 → t < get_or xs v 0 → before u xs + s ≡ before v xs + t → u ≡ v
one_unit xs u v s t slt tlt same = elim (cases_eq u v) [
  | inl is ↦ is
  | inr other ↦ elim (cases_lt u v) [
    | inl less ↦ absurd (omega (arith, before_more xs u v less, slt, same))
    | inr more ↦ absurd (omega (arith, before_more xs v u (omega (arith, more, other)), tlt, same))
  ]
]

pub starts_at : (n : ℕ) (xs : List ℕ) (u d : ℕ) → u < length xs → get_or (starts_of n xs) u d ≡ n + before u xs
starts_at n [] u d lt = absurd (omega (arith, lt))
starts_at n (x ∷ xs) zero d lt = omega arith
starts_at n (x ∷ xs) (suc u) d lt = starts_at (n + x) xs u d (omega (arith, lt)) ∙ omega arith

-- ------ the places of the entries that a form names
pub record IsMark (F : Form) (u s : ℕ) : Type 0 where
  pub unit : u < F.units
  pub segment : s < segments_of F u

pub mark_of : (F : Form) (u s : ℕ) → names F (Marked u s) ≡ true → IsMark F u s
mark_of F u s is = let parts = and_parts _ _ is in record { unit = ltb-true u F.units parts.0; segment = ltb-true s (segments_of F u) parts.1 }

pub unit_named : (F : Form) (e : Entry) → names F e ≡ true → unit_of e < F.units
unit_named F (Begun u) is = ltb-true u F.units is
unit_named F (Marked u s) is = (mark_of F u s is).unit
unit_named F (Complete u) is = ltb-true u F.units is

pub place_below : (F : Form) (e : Entry) → names F e ≡ true → place_of F e < slots_of F
place_below F (Begun u) is = omega (arith, ltb-true u F.units is)
place_below F (Marked u s) is = omega (arith, before_below F.segments u s (mark_of F u s is).segment)
place_below F (Complete u) is = omega (arith, ltb-true u F.units is)

pub from_place : (F : Form) (e x : Entry) → names F e ≡ true → names F x ≡ true → place_of F e ≡ place_of F x → e ≡ x
from_place F (Begun u) (Begun v) ne nx is = ap (λ (w : ℕ). Begun w) (omega (arith, is))
from_place F (Begun u) (Marked v t) ne nx is = absurd (omega (arith, ltb-true u F.units ne, is))
from_place F (Begun u) (Complete v) ne nx is = absurd (omega (arith, is))
from_place F (Marked u s) (Begun v) ne nx is = absurd (omega (arith, ltb-true v F.units nx, is))
from_place F (Marked u s) (Marked v t) ne nx is =
    let unit : u ≡ v = one_unit F.segments u v s t (mark_of F u s ne).segment (mark_of F v t nx).segment (omega (arith, is)) in
    let start : before u F.segments ≡ before v F.segments = ap (λ (w : ℕ). before w F.segments) unit in
    let segment : s ≡ t = omega (arith, is, start) in
    λ i. Marked (unit i) (segment i)
from_place F (Marked u s) (Complete v) ne nx is = absurd (omega (arith, ltb-true v F.units nx, is))
from_place F (Complete u) (Begun v) ne nx is = absurd (omega (arith, is))
from_place F (Complete u) (Marked v t) ne nx is = absurd (omega (arith, ltb-true u F.units ne, is))
from_place F (Complete u) (Complete v) ne nx is = ap (λ (w : ℕ). Complete w) (omega (arith, is))

or_false : (b : Bool) → b ≡ (b || false)
or_false true = refl
or_false false = refl

or_true : (b : Bool) → true ≡ (b || true)
or_true true = refl
or_true false = refl

not_entry : (e x : Entry) → (e ≡ x → ⊥) → is_entry e x ≡ false
not_entry e x other = elim (cases_Bool (is_entry e x)) [ inl is ↦ absurd (other (entry_of e x is)) | inr is ↦ is ]

-- the table with an entry more
pub table_more : (F : Form) (xs : List Bool) (e x : Entry) → names F e ≡ true → place_of F e < length xs → is_found F (set xs (place_of F e) true) x ≡ (is_found F xs x || is_entry e x)
table_more F xs e x named lt = elim (cases_Bool (names F x)) [
  | inr isnt ↦ and_left _ _ isnt ∙ sym (both_none (is_found F xs x) (is_entry e x) (and_left _ _ isnt) (not_entry e x (λ same. both_ways _ isnt (subst (λ (y : Entry). names F y ≡ true) same named))))
  | inl is ↦ (λ i. is i && get_or (set xs (place_of F e) true) (place_of F x) false) ∙ placed is ∙ sym (λ i. (is i && get_or xs (place_of F x) false) || is_entry e x)
]
  where
    both_none : (a b : Bool) → a ≡ false → b ≡ false → (a || b) ≡ false
    both_none a b e1 e2 = rw (e1, e2) refl

    placed : names F x ≡ true → get_or (set xs (place_of F e) true) (place_of F x) false ≡ (get_or xs (place_of F x) false || is_entry e x)
    placed is = elim (cases_eq (place_of F x) (place_of F e)) [
      | inl same ↦ ap (λ (k : ℕ). get_or (set xs (place_of F e) true) k false) same ∙ get_or-set_same xs (place_of F e) true false lt
          ∙ or_true (get_or xs (place_of F x) false)
          ∙ (λ i. get_or xs (place_of F x) false || sym (subst (λ (y : Entry). is_entry e y ≡ true) (from_place F e x named is (sym same)) (is_itself e)) i)
      | inr other ↦ get_or-set_other xs (place_of F e) (place_of F x) true false other
          ∙ or_false (get_or xs (place_of F x) false)
          ∙ (λ i. get_or xs (place_of F x) false || sym (not_entry e x (λ same. other (ap (λ (y : Entry). place_of F y) (sym same)))) i)
    ]

-- an entry that the form names is in the table where its place is true
pub found_at : (F : Form) (found : List Bool) (e : Entry) → names F e ≡ true → is_found F found e ≡ get_or found (place_of F e) false
found_at F found e named = λ i. named i && get_or found (place_of F e) false

pub other_default : (xs : List Bool) (i : ℕ) (d e : Bool) → i < length xs → get_or xs i d ≡ get_or xs i e
other_default [] i d e lt = absurd (omega (arith, lt))
other_default (b ∷ bs) zero d e lt = refl
other_default (b ∷ bs) (suc i) d e lt = other_default bs i d e (omega (arith, lt))

-- what an index gives
pub index_is : (xs : List Bool) (i : ℕ) (b v : Bool) → i < length xs → b ≡ get_or xs i b → b ≡ v → get_or xs i false ≡ v
index_is xs i b v lt is at = other_default xs i false b lt ∙ sym is ∙ at
