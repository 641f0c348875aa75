-- Identifiers are read as they are written.
use Rattle.std.proofs.Common.{◌≡◌, ◌⊎◌, inl, inr, ℕ, ◌+◌, ◌*◌, ◌/◌, ◌%◌, ◌<◌, Bool, true, false, List, [], ◌∷◌, ◌++◌, Option, Some, None, refl, sym, ◌∙◌, ap, arith, length, append_assoc, Equal, Greater, nat_cmp}
use Rattle.std.specs.Prelude.{nat_le, nat_lt, ◌==◌, Ok, codes, slice_index, if◌then◌else◌}
use Rattle.std.specs.List.{insert}
use Rattle.std.specs.Ordering.{match_ordering, ordering_then}
use Rattle.std.specs.Cmp.Lexicographic.{slice_cmp}
use Rattle.std.proofs.lemmas.List.{append-nil}
use Rattle.std.proofs.lemmas.Bool.{and_parts, cases_lt, ltb-true}
use Rattle.hex.specs.Hex.{encode_with, upper_digits}
use Rattle.serde_json.specs.Data.{Members, member, no_members, put}
use Rattle.flash_base.specs.Lists.{Each}
use Rattle.flash_base.specs.Numbers.{each_below}
use Rattle.unit_model.specs.Idents.{all_short}
use Rattle.vehicle_file.specs.Fields.{bytes_up_to, chosen_of, under}
use Rattle.vehicle_file.specs.Units.{ident, ident_at, ident_of, idents, idents_from, position_from}
use Rattle.vehicle_text.specs.Forms.{bytes_data, four_text}
use Rattle.vehicle_text.specs.Ranges.{FitsIdent}
use Rattle.vehicle_text.specs.Texts.{ascend}
use Rattle.vehicle_text.specs.Objects.{members_in, object_in}
use Rattle.vehicle_text.specs.Units.{idents_fields, idents_given}
use Rattle.vehicle_text.proofs.Digits.{bytes_up_to_are, four_digits_are, one_below}
use Rattle.vehicle_text.proofs.Finding.{bind, given_is, normal_some}
use Rattle.vehicle_text.proofs.Sorted.{normal, normal_into}

-- ------ the texts of numbers stand in the order of the numbers
abbrev comes_first : ℕ → ℕ → Bool
comes_first d e = nat_lt (slice_index upper_digits d) (slice_index upper_digits e)

abbrev all_first : ℕ → Bool
all_first e = each_below e (λ d. comes_first d e)

digits_ascend : (d e : ℕ) → d < e → e < 16 → slice_index upper_digits d < slice_index upper_digits e
digits_ascend d e lt few =
    ltb-true (slice_index upper_digits d) (slice_index upper_digits e) (one_below (λ x. comes_first x e) e d (one_below all_first 16 e refl few) lt)

more_is : (a b : ℕ) → b < a → nat_cmp a b ≡ Greater
more_is a b lt = grind (arith, lt)

same_is : (a : ℕ) → nat_cmp a a ≡ Equal
same_is a = grind (arith)

abbrev digit : ℕ → ℕ
digit d = slice_index upper_digits d

-- texts with the same first digit, or a higher one
first_higher : (d e : ℕ) (xs ys : List ℕ) → e < d → d < 16 → slice_cmp nat_cmp (digit d ∷ xs) (digit e ∷ ys) ≡ Greater
first_higher d e xs ys lt few = ap (λ o. ordering_then o (slice_cmp nat_cmp xs ys)) (more_is (digit d) (digit e) (digits_ascend e d lt few))

first_same : (d e : ℕ) (xs ys : List ℕ) → d ≡ e → slice_cmp nat_cmp xs ys ≡ Greater → slice_cmp nat_cmp (digit d ∷ xs) (digit e ∷ ys) ≡ Greater
first_same d e xs ys same later =
    ap (λ (k : ℕ). slice_cmp nat_cmp (digit d ∷ xs) (digit k ∷ ys)) (sym same) ∙ ap (λ o. ordering_then o (slice_cmp nat_cmp xs ys)) (same_is (digit d)) ∙ later

-- one digit after another
two_digits : (a b c d : ℕ) (xs ys : List ℕ) → a < 16 → b < 16 → c < 16 → d < 16
    → (c * 16 + d < a * 16 + b) ⊎ ((a ≡ c) × (b ≡ d) × (slice_cmp nat_cmp xs ys ≡ Greater))
    → slice_cmp nat_cmp (digit a ∷ digit b ∷ xs) (digit c ∷ digit d ∷ ys) ≡ Greater
two_digits a b c d xs ys la lb lc ld (inr same) = first_same a c (digit b ∷ xs) (digit d ∷ ys) same.0 (first_same b d xs ys same.1 same.2)
two_digits a b c d xs ys la lb lc ld (inl lt) = elim (cases_lt c a) [
  | inl below ↦ first_higher a c (digit b ∷ xs) (digit d ∷ ys) below la
  | inr above ↦
      let e : a ≡ c = omega (arith, lt, above, lb, ld) in
      first_same a c (digit b ∷ xs) (digit d ∷ ys) e (first_higher b d xs ys (omega (arith, lt, e)) lb)
]

texts_descend : (m n : ℕ) → n < m → m < 65536 → slice_cmp nat_cmp (four_text m) (four_text n) ≡ Greater
unfolding encode_with
texts_descend m n lt few =
    two_digits (m / 256 / 16) (m / 256 % 16) (n / 256 / 16) (n / 256 % 16)
    (digit (m % 256 / 16) ∷ digit (m % 256 % 16) ∷ []) (digit (n % 256 / 16) ∷ digit (n % 256 % 16) ∷ [])
    (omega (arith, few)) (omega arith) (omega (arith, lt, few)) (omega arith)
    (elim (cases_lt (n / 256) (m / 256)) [
      | inl below ↦ inl (omega (arith, below))
      | inr above ↦
          let e : m / 256 ≡ n / 256 = omega (arith, above, lt) in
          inr (
            ap (λ (k : ℕ). k / 16) e,
            ap (λ (k : ℕ). k % 16) e,
            two_digits (m % 256 / 16) (m % 256 % 16) (n % 256 / 16) (n % 256 % 16) [] [] (omega arith) (omega arith) (omega arith) (omega arith) (inl (omega (arith, lt, e))),
          )
    ])

-- ------ the members stand in the order of the identifiers
abbrev members_of : List (ℕ × List ℕ) → Members
members_of [] = no_members
members_of (i ∷ is) = member (four_text i.0) (bytes_data i.1) (members_of is)

abbrev AreBelow : ℕ → List (ℕ × List ℕ) → Type 0
AreBelow did is = Each (λ i. i.0 < did) is

more_below : (did next : ℕ) (before : List (ℕ × List ℕ)) (x : ℕ × List ℕ) → did < next → x.0 ≡ did → AreBelow did before → AreBelow next (before ++ x ∷ [])
more_below did next [] x lt is all = (omega (arith, lt, is), tt)
more_below did next (b ∷ before) x lt is all = (omega (arith, lt, all.0), more_below did next before x lt is all.1)

abbrev BelowFirst : List (ℕ × List ℕ) → List (ℕ × List ℕ) → Type 0
BelowFirst before [] = Unit {0}
BelowFirst before (i ∷ is) = AreBelow i.0 before

below_next : (before : List (ℕ × List ℕ)) (i : ℕ × List ℕ) (is : List (ℕ × List ℕ)) → ascend (i ∷ is) ≡ true → AreBelow i.0 before → BelowFirst (before ++ i ∷ []) is
below_next before i [] up all = tt
below_next before i (j ∷ js) up all = more_below i.0 j.0 before i (ltb-true i.0 j.0 (and_parts (nat_lt i.0 j.0) (ascend (j ∷ js)) up).0) refl all

rest_ascends : (i : ℕ × List ℕ) (is : List (ℕ × List ℕ)) → ascend (i ∷ is) ≡ true → ascend is ≡ true
rest_ascends i [] up = refl
rest_ascends i (j ∷ js) up = (and_parts (nat_lt i.0 j.0) (ascend (j ∷ js)) up).1

none_before : (is : List (ℕ × List ℕ)) → BelowFirst [] is
none_before [] = tt
none_before (i ∷ is) = tt

put_behind : (i : ℕ × List ℕ) (front : List (ℕ × List ℕ)) → i.0 < 65536 → AreBelow i.0 front → put (four_text i.0) (bytes_data i.1) (members_of front) ≡ members_of (front ++ i ∷ [])
put_behind i [] few all = refl
put_behind i (j ∷ js) few all =
    ap (λ o. match_ordering o (member (four_text i.0) (bytes_data i.1) (members_of (j ∷ js))) (member (four_text j.0) (bytes_data i.1) (members_of js)) (member (four_text j.0) (bytes_data j.1) (put (four_text i.0) (bytes_data i.1) (members_of js))))
    (texts_descend i.0 j.0 all.0 few)
    ∙ ap (member (four_text j.0) (bytes_data j.1)) (put_behind i js few all.1)

in_order : (front is : List (ℕ × List ℕ)) → ascend is ≡ true → Each FitsIdent is → BelowFirst front is → normal_into (members_in (idents_fields is)) (members_of front) ≡ members_of (front ++ is)
in_order front [] up fits below = ap members_of (sym (append-nil front))
in_order front (i ∷ is) up fits below =
    ap (normal_into (members_in (idents_fields is))) (put_behind i front fits.0.0 below)
    ∙ in_order (front ++ i ∷ []) is (rest_ascends i is up) fits.1 (below_next front i is up below) ∙ ap members_of (append_assoc front (i ∷ []) is)

-- ------ and are read so
not_below : (a b : ℕ) → a < b → nat_lt b a ≡ false
not_below a b lt = grind (arith, lt)

not_same : (a b : ℕ) → a < b → (b == a) ≡ false
not_same a b lt = grind (arith, lt)

last_place : (i did : ℕ) (before : List (ℕ × List ℕ)) → AreBelow did before → position_from i did before ≡ Some (i + length before)
last_place i did [] all = ap Some (omega arith)
last_place i did (j ∷ js) all =
    let later : position_from (i + 1) did js ≡ Some (i + 1 + length js) = last_place (i + 1) did js all.1 in
    ap (λ (b : Bool). if b then Some i else if did == j.0 then None else position_from (i + 1) did js) (not_below j.0 did all.0)
    ∙ ap (λ (b : Bool). if b then None else position_from (i + 1) did js) (not_same j.0 did all.0) ∙ later ∙ ap Some (omega arith)

put_last : (before : List (ℕ × List ℕ)) (x : ℕ × List ℕ) → insert before (length before) x ≡ before ++ x ∷ []
put_last [] x = refl
put_last (b ∷ before) x = ap (λ (xs : List (ℕ × List ℕ)). b ∷ xs) (put_last before x)

ident_is : (i : ℕ × List ℕ) (before : List (ℕ × List ℕ)) → FitsIdent i → nat_le (length i.1) 4096 ≡ true → AreBelow i.0 before
    → ident (four_text i.0) before (bytes_data i.1) ≡ Ok (before ++ i ∷ [])
ident_is i before fits short below = ap (under (four_text i.0))
    (ap (λ (o : Option ℕ). ident_of o before (bytes_data i.1)) (four_digits_are i.0 fits.0)
    ∙ ap (λ (o : Option ℕ). ident_at i.0 o before (bytes_data i.1)) (last_place 0 i.0 before below ∙ ap Some (omega arith))
    ∙ bind (bytes_up_to 4096 (bytes_data i.1)) (λ bs. Ok (insert before (length before) (i.0, bs))) i.1 _ (bytes_up_to_are 4096 i.1 fits.1 short) (ap Ok (put_last before i)))

all_read : (before is : List (ℕ × List ℕ)) → ascend is ≡ true → all_short is ≡ true → Each FitsIdent is → BelowFirst before is → idents_from before (members_of is) ≡ Ok (before ++ is)
all_read before [] up short fits below = ap Ok (sym (append-nil before))
all_read before (i ∷ is) up short fits below =
    let parts = and_parts (nat_le (length i.1) 4096) (all_short is) short in
    bind (ident (four_text i.0) before (bytes_data i.1)) (λ next. idents_from next (members_of is)) (before ++ i ∷ []) _ (ident_is i before fits.0 parts.0 below)
    (all_read (before ++ i ∷ []) is (rest_ascends i is up) parts.1 fits.1 (below_next before i is up below) ∙ ap Ok (append_assoc before (i ∷ []) is))

idents_are : (is : List (ℕ × List ℕ)) → ascend is ≡ true → all_short is ≡ true → Each FitsIdent is → idents (normal (object_in (idents_fields is))) ≡ Ok is
idents_are is up short fits = ap (idents_from []) (in_order [] is up fits (none_before is)) ∙ all_read [] is up short fits (none_before is)

pub given_idents : (is : List (ℕ × List ℕ)) → ascend is ≡ true → all_short is ≡ true → Each FitsIdent is → chosen_of (codes "idents") [] idents (normal_some (idents_given is)) ≡ Ok is
given_idents [] up short fits = refl
given_idents (i ∷ is) up short fits = given_is (codes "idents") [] idents (object_in (idents_fields (i ∷ is))) (i ∷ is) (idents_are (i ∷ is) up short fits)
