-- Slots that stand in the first slots of a wider form, with closed ones behind them.
use Rattle.std.proofs.Common.{◌≡◌, inl, inr, ℕ, zero, suc, ◌+◌, ◌*◌, ◌-◌, ◌<◌, ◌≤◌, true, false, List, [], ◌∷◌, ◌++◌, length, get_or, slice_index, refl, sym, ◌∙◌, ap, subst, arith}
use Rattle.std.specs.Prelude.{◌==◌, Bool, not, ◌&&◌, ◌||◌, nat_lt, replicate}
use Rattle.std.proofs.lemmas.Bool.{cases_Bool, cases_lt, and_parts, and_from, and_left, both_ways, le-leb, ltb-true}
use Rattle.std.proofs.lemmas.List.{get_or_append_left, get_or-append_right, get_or_past}
use Rattle.flash_plan.specs.declared.outcome.Entry.{Entry}
use Rattle.flash_plan.specs.declared.outcome.Entry.TheVariants.{Begun, Marked, Complete}
use Rattle.flash_base.specs.Numbers.{some_below}
use Rattle.journal_model.specs.Records.{Label, Form, total, slots_of, segments_of, end_of, old_form, new_form, names, body_at, is_open, spells, is_spelt, has, body_of, is_formed, is_distinct, is_ordered, is_filled}
use Rattle.journal_steps.specs.Read.{one_formed, one_apart, one_distinct, one_ordered}
use Rattle.journal_steps.specs.Tables.{count_true, place_of, is_found}
use Rattle.journal_steps.proofs.Slots.{below_at, below_from, below_same}
use Rattle.journal_steps.proofs.Same.{some_same}
use Rattle.journal_steps.proofs.More.{named_there}
use Rattle.journal_steps.proofs.Reading.{some_found, spelt_entry, spells_entry, none_of}
use Rattle.journal_steps.proofs.Listing.{behind_of, behind_all}
use Rattle.journal_steps.proofs.Tables.{entry_of}

-- the slots of one form stand in another
pub record Moved (F G : Form) (base image : List ℕ) : Type 0 where
  pub gate : (j : ℕ) → j < slots_of F → is_open G image j ≡ is_open F base j
  pub body : (j t : ℕ) → j < slots_of F → t < 16 → slice_index image (body_at G j + t) ≡ slice_index base (body_at F j + t)
  pub closed : (j : ℕ) → slots_of F ≤ j → j < slots_of G → is_open G image j ≡ false

some_none : (n m : ℕ) (p : ℕ → Bool) → ((j : ℕ) → n ≤ j → j < n + m → p j ≡ false) → some_below (n + m) p ≡ some_below n p
some_none n zero p none = let same : n + zero ≡ n = omega arith in ap (λ (k : ℕ). some_below k p) same
some_none n (suc m) p none = ap (λ (k : ℕ). some_below k p) more ∙ (λ i. some_none n m p (λ j le lt. none j le (omega (arith, lt))) i || none (n + m) (omega arith) (omega arith) i) ∙ or_false (some_below n p)
  where
    more : n + suc m ≡ suc (n + m)
    more = omega arith

    or_false : (b : Bool) → (b || false) ≡ b
    or_false true = refl
    or_false false = refl

or_first : (x y : Bool) → x ≡ true → (x || y) ≡ true
or_first x y is = rw is refl

or_second : (x y : Bool) → y ≡ true → (x || y) ≡ true
or_second true y is = refl
or_second false y is = is

shut : (b c : Bool) → b ≡ false → (not b || c) ≡ true
shut b c is = rw is refl

-- a formed journal has no entry that its form lacks
pub has_named : (F : Form) (base : List ℕ) (e : Entry) → is_formed F base ≡ true → has F base e ≡ true → names F e ≡ true
has_named F base e formed is =
    let there = some_found (slots_of F) (λ j. is_open F base j && spells F base j e) is in
    let parts = and_parts _ _ there.holds in
    let spelt : is_spelt F base there.at ≡ true = not_or _ _ parts.0 (below_at (slots_of F) (one_formed F base) formed there.at there.below) in
    let entry = spelt_entry F base there.at spelt in
    subst (λ (x : Entry). names F x ≡ true) (sym (entry_of e entry.entry (sym (spells_entry F base there.at e parts.1 entry.entry) ∙ entry.spells_it))) entry.named
  where
    not_or : (b c : Bool) → b ≡ true → (not b || c) ≡ true → c ≡ true
    not_or true c is or = or
    not_or false c is or = absurd (both_ways _ refl is)

module _ (F G : Form) (base image : List ℕ) (moved : Moved F G base image) (more : ℕ) (wider : slots_of G ≡ slots_of F + more) where
  spells_moved : (j : ℕ) → j < slots_of F → (x : Entry) → spells G image j x ≡ spells F base j x
  spells_moved j lt x = below_same 16 (λ t. slice_index image (body_at G j + t) == slice_index (body_of x) t) (λ t. slice_index base (body_at F j + t) == slice_index (body_of x) t) (λ t tlt. ap (λ (b : ℕ). b == slice_index (body_of x) t) (moved.body j t lt tlt))

  pub has_moved : (x : Entry) → has G image x ≡ has F base x
  has_moved x = ap (λ (k : ℕ). some_below k (λ j. is_open G image j && spells G image j x)) wider
      ∙ some_none (slots_of F) more (λ j. is_open G image j && spells G image j x) (λ j le lt. and_left _ _ (moved.closed j le (omega (arith, lt, wider))))
      ∙ some_same (slots_of F) (λ j. is_open G image j && spells G image j x) (λ j. is_open F base j && spells F base j x) (λ j lt i. moved.gate j lt i && spells_moved j lt x i)

  module _ (same_units : G.units ≡ F.units) (named : (e : Entry) → names F e ≡ true → names G e ≡ true) where
    formed_moved : is_formed F base ≡ true → is_formed G image ≡ true
    formed_moved formed = below_from (slots_of G) (one_formed G image) (λ j lt. elim (cases_lt j (slots_of F)) [
      | inr past ↦ shut _ _ (moved.closed j past lt)
      | inl within ↦ elim (cases_Bool (is_open F base j)) [
        | inr isnt ↦ shut _ _ (moved.gate j within ∙ isnt)
        | inl is ↦ or_second (not (is_open G image j)) _ (here j within is (below_at (slots_of F) (one_formed F base) formed j within))
      ]
    ])
      where
        not_or : (b c : Bool) → b ≡ true → (not b || c) ≡ true → c ≡ true
        not_or true c is or = or
        not_or false c is or = absurd (both_ways _ refl is)

        here : (j : ℕ) → j < slots_of F → is_open F base j ≡ true → one_formed F base j ≡ true → is_spelt G image j ≡ true
        here j lt is formed_j =
            let entry = spelt_entry F base j (not_or _ _ is formed_j) in
            named_there G image j entry.entry (named entry.entry entry.named) (spells_moved j lt entry.entry ∙ entry.spells_it)

    apart_moved : (j l : ℕ) → j < slots_of F → l < slots_of F → one_apart G image j l ≡ one_apart F base j l
    apart_moved j l jlt llt = λ i. not (moved.gate l llt i) || not (below_same 16 (λ t. slice_index image (body_at G j + t) == slice_index image (body_at G l + t)) (λ t. slice_index base (body_at F j + t) == slice_index base (body_at F l + t))
        (λ t tlt i2. moved.body j t jlt tlt i2 == moved.body l t llt tlt i2) i)

    distinct_moved : is_distinct F base ≡ true → is_distinct G image ≡ true
    distinct_moved distinct = below_from (slots_of G) (one_distinct G image) (λ j lt. elim (cases_lt j (slots_of F)) [
      | inr past ↦ shut _ _ (moved.closed j past lt)
      | inl within ↦ (λ i. not (moved.gate j within i) || below_same j (one_apart G image j) (one_apart F base j) (λ l llt. apart_moved j l within (omega (arith, llt, within))) i)
          ∙ below_at (slots_of F) (one_distinct F base) distinct j within
    ])

    ordered_moved : is_formed F base ≡ true → is_ordered F base ≡ true → is_ordered G image ≡ true
    ordered_moved formed ordered = below_from G.units (one_ordered G (has G image)) (λ u lt.
        let behind = behind_of F (has F base) u (below_at F.units (one_ordered F (has F base)) ordered u (omega (arith, lt, same_units))) in
        behind_all G (has G image) u (record {
          complete = λ at. has_moved (Begun u) ∙ behind.complete (sym (has_moved (Complete u)) ∙ at);
          marked = λ s slt at.
              let there : has F base (Marked u s) ≡ true = sym (has_moved (Marked u s)) ∙ at in
              let mark = and_parts _ _ (has_named F base (Marked u s) formed there) in
              has_moved (Begun u) ∙ behind.marked s (ltb-true s (segments_of F u) mark.1) there;
        }))

    pub filled_moved : end_of G ≤ length image → is_filled F base ≡ true → is_filled G image ≡ true
    filled_moved long filled =
        let q3 = and_parts _ _ filled in
        let q2 = and_parts _ _ q3.0 in
        let q1 = and_parts _ _ q2.0 in
        and_from _ _ (and_from _ _ (and_from _ _ (le-leb (end_of G) (length image) long) (formed_moved q1.1)) (distinct_moved q2.1)) (ordered_moved q1.1 q3.1)

-- ------ the tables of a migrated file
count_append : (xs ys : List Bool) → count_true (xs ++ ys) ≡ count_true xs + count_true ys
count_append [] ys = omega arith
count_append (x ∷ xs) ys = omega (arith, count_append xs ys)

pub get_wider : (xs : List Bool) (n i : ℕ) → get_or (xs ++ replicate n false) i false ≡ get_or xs i false
get_wider xs n i = elim (cases_lt i (length xs)) [
  | inl lt ↦ get_or_append_left xs (replicate n false) false i lt
  | inr ge ↦ get_or-append_right xs (replicate n false) (length xs) i false refl ge ∙ none_of n (i - length xs) ∙ sym (get_or_past xs i false ge)
]

pub balance_wider : (gates found : List Bool) (n : ℕ) → count_true gates ≡ count_true found → count_true (gates ++ replicate n false) ≡ count_true (found ++ replicate n false)
balance_wider gates found n is = count_append gates (replicate n false) ∙ omega (arith, is) ∙ sym (count_append found (replicate n false))

module _ (P : Label) (at : ℕ) where
  abbrev F : Form
  F = old_form P

  abbrev G : Form
  G = new_form P at

  -- version 1 has no mark
  no_mark : (u s : ℕ) → names F (Marked u s) ≡ true → ⊥
  no_mark u s is = below_none s (ltb-true s (segments_of F u) (and_parts (nat_lt u F.units) (nat_lt s (segments_of F u)) is).1)
    where
      below_none : (n : ℕ) → n < 0 → ⊥
      below_none n lt = omega (arith, lt)

  pub named_wider : (e : Entry) → names F e ≡ true → names G e ≡ true
  named_wider (Begun u) is = is
  named_wider (Marked u s) is = absurd (no_mark u s is)
  named_wider (Complete u) is = is

  and_none : (a b : Bool) → b ≡ false → (a && b) ≡ false
  and_none true b is = is
  and_none false b is = refl

  -- an entry is in the wider table where it is in the other
  pub found_wider : (found : List Bool) → length found ≡ slots_of F → (e : Entry) → is_found G (found ++ replicate (total P.segments) false) e ≡ is_found F found e
  found_wider found size (Begun u) = λ i. nat_lt u (length P.segments) && get_wider found (total P.segments) (2 * u) i
  found_wider found size (Complete u) = λ i. nat_lt u (length P.segments) && get_wider found (total P.segments) (2 * u + 1) i
  found_wider found size (Marked u s) = and_none (names G (Marked u s)) _ (get_wider found (total P.segments) (place_of G (Marked u s)) ∙ get_or_past found (place_of G (Marked u s)) false (omega (arith, size)))
      ∙ sym (elim (cases_Bool (names F (Marked u s))) [
        | inl is ↦ absurd (no_mark u s is)
        | inr isnt ↦ and_left _ _ isnt
      ])
