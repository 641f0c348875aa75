-- How the tables are filled, slot by slot.
use Rattle.std.proofs.Common.{◌≡◌, ◌⊎◌, inl, inr, ℕ, zero, suc, ◌+◌, ◌<◌, true, false, List, length, get_or, set, length-set, refl, sym, ◌∙◌, ap, subst, arith}
use Rattle.std.specs.Prelude.{◌==◌, Bool, not, ◌&&◌, ◌||◌, nat_lt, slice_index, replicate}
use Rattle.std.proofs.lemmas.Bool.{cases_Bool, cases_eq, cases_lt, or_cases, and_parts, and_from, and_left, both_ways, eq-eqb, eqb-true, lt-ltb}
use Rattle.std.proofs.lemmas.List.{get_or-replicate, get_or_past, get_or-set_same, get_or-set_other, length-replicate}
use Rattle.flash_plan.specs.declared.outcome.Entry.{Entry}
use Rattle.flash_plan.specs.declared.outcome.Entry.TheVariants.{Begun, Marked, Complete}
use Rattle.flash_base.specs.Numbers.{each_below, some_below}
use Rattle.journal_model.specs.Records.{Form, slots_of, segments_of, names, body_at, is_open, spells, is_spelt, body_of, is_formed, is_distinct}
use Rattle.journal_steps.specs.Append.{is_entry}
use Rattle.journal_steps.specs.Tables.{count_true, place_of, is_found}
use Rattle.journal_steps.specs.Read.{IsRead, IsReadUpTo, has_upto, twice, one_formed, one_apart, one_distinct}
use Rattle.journal_steps.proofs.Slots.{below_at, below_from, below_same}
use Rattle.journal_steps.proofs.Same.{some_at}
use Rattle.journal_steps.proofs.More.{named_there}
use Rattle.journal_steps.proofs.Tables.{table_more, count_set, found_at, entry_of}

pub not_below : (n : ℕ) (p : ℕ → Bool) (k : ℕ) → k < n → p k ≡ false → each_below n p ≡ false
not_below n p k lt is = elim (cases_Bool (each_below n p)) [
  | inl all ↦ absurd (both_ways _ is (below_at n p all k lt))
  | inr some ↦ some
]

pub record Found (n : ℕ) (p : ℕ → Bool) : Type 0 where
  pub at : ℕ
  pub below : at < n
  pub holds : p at ≡ true

pub some_found : (n : ℕ) (p : ℕ → Bool) → some_below n p ≡ true → Found n p
some_found zero p is = absurd (both_ways _ refl is)
some_found (suc n) p is = elim (or_cases (some_below n p) (p n) is) [
  | inl early ↦ let there = some_found n p early in record { at = there.at; below = omega (arith, there.below); holds = there.holds }
  | inr here ↦ record { at = n; below = omega arith; holds = here }
]

pub none_of : (n i : ℕ) → get_or (replicate n false) i false ≡ false
none_of n i = elim (cases_lt i n) [
  | inl less ↦ get_or-replicate n i false false less
  | inr more ↦ get_or_past (replicate n false) i false (omega (arith, more, length-replicate n false))
]

and_none : (a b : Bool) → b ≡ false → (a && b) ≡ false
and_none true b is = is
and_none false b is = refl

pub none_found : (F : Form) (n : ℕ) (e : Entry) → is_found F (replicate n false) e ≡ false
none_found F n e = and_none _ _ (none_of n (place_of F e))

pub read_start : (F : Form) (bytes : List ℕ) (gates found : List Bool) → gates ≡ replicate (slots_of F) false → found ≡ replicate (slots_of F) false → IsReadUpTo F bytes 0 gates found
read_start F bytes gates found g f = record {
  gates_size = ap length g ∙ length-replicate (slots_of F) false;
  found_size = ap length f ∙ length-replicate (slots_of F) false;
  balance = ap count_true (g ∙ sym f);
  opened = λ j lt. absurd (omega (arith, lt));
  shut = λ j ge. ap (λ (xs : List Bool). get_or xs j false) g ∙ none_of (slots_of F) j;
  entry = λ e. ap (λ (xs : List Bool). is_found F xs e) f ∙ none_found F (slots_of F) e;
  formed = refl;
  distinct = refl;
}

or_none : (b c : Bool) → c ≡ false → b ≡ (b || c)
or_none true c is = refl
or_none false c is = sym is

one_shut : (b c : Bool) → b ≡ false → (not b || c) ≡ true
one_shut b c is = rw is refl

up_to : (j k : ℕ) → j < suc k → (j < k) ⊎ (j ≡ k)
up_to j k lt = elim (cases_eq j k) [ inl e ↦ inr e | inr ne ↦ inl (omega (arith, lt, ne)) ]

pub read_skip : (F : Form) (bytes : List ℕ) (k : ℕ) (gates found : List Bool) → IsReadUpTo F bytes k gates found → is_open F bytes k ≡ false → IsReadUpTo F bytes (suc k) gates found
read_skip F bytes k gates found so_far closed = record {
  gates_size = so_far.gates_size;
  found_size = so_far.found_size;
  balance = so_far.balance;
  opened = λ j lt. elim (up_to j k lt) [
    | inl less ↦ so_far.opened j less
    | inr e ↦ ap (λ (i : ℕ). get_or gates i false) e ∙ so_far.shut k (omega arith) ∙ sym closed ∙ ap (λ (i : ℕ). is_open F bytes i) (sym e)
  ];
  shut = λ j ge. so_far.shut j (omega (arith, ge));
  entry = λ e. so_far.entry e ∙ or_none (has_upto F bytes k e) (is_open F bytes k && spells F bytes k e) (and_left _ _ closed);
  formed = and_from _ _ so_far.formed (one_shut (is_open F bytes k) _ closed);
  distinct = and_from _ _ so_far.distinct (one_shut (is_open F bytes k) _ closed);
}

-- the body of a slot that spells an entry
module _ (F : Form) (bytes : List ℕ) (k : ℕ) (e : Entry) (spelt : spells F bytes k e ≡ true) where
  pub body_byte : (t : ℕ) → t < 16 → slice_index bytes (body_at F k + t) ≡ slice_index (body_of e) t
  body_byte t lt = eqb-true _ _ (below_at 16 (λ j. slice_index bytes (body_at F k + j) == slice_index (body_of e) j) spelt t lt)

  pub spells_entry : (x : Entry) → spells F bytes k x ≡ is_entry e x
  spells_entry x = below_same 16 (λ j. slice_index bytes (body_at F k + j) == slice_index (body_of x) j) (λ j. slice_index (body_of e) j == slice_index (body_of x) j) (λ t lt i. body_byte t lt i == slice_index (body_of x) t)

-- two slots that spell one entry
both_twice : (F : Form) (bytes : List ℕ) (k l : ℕ) (e : Entry) → spells F bytes k e ≡ true → spells F bytes l e ≡ true → twice F bytes k l ≡ true
both_twice F bytes k l e at_k at_l = below_from 16 (λ j. slice_index bytes (body_at F k + j) == slice_index bytes (body_at F l + j)) (λ t lt. eq-eqb _ _ (body_byte F bytes k e at_k t lt ∙ sym (body_byte F bytes l e at_l t lt)))

-- a slot with the body of one that spells an entry spells it too
twice_spells : (F : Form) (bytes : List ℕ) (k l : ℕ) (e : Entry) → spells F bytes k e ≡ true → twice F bytes k l ≡ true → spells F bytes l e ≡ true
twice_spells F bytes k l e at_k same = below_from 16 (λ j. slice_index bytes (body_at F l + j) == slice_index (body_of e) j) (λ t lt. eq-eqb _ _ (sym (eqb-true _ _ (below_at 16 (λ j. slice_index bytes (body_at F k + j) == slice_index bytes (body_at F l + j)) same t lt)) ∙ body_byte F bytes k e at_k t lt))

or_last : (x y : Bool) → y ≡ true → (x || y) ≡ true
or_last true y e = refl
or_last false y e = e

not_of : (b : Bool) → b ≡ false → not b ≡ true
not_of b is = rw is refl

pub read_note : (F : Form) (bytes : List ℕ) (k : ℕ) (gates found : List Bool) (e : Entry) (place : ℕ) → IsReadUpTo F bytes k gates found → k < slots_of F
    → is_open F bytes k ≡ true → spells F bytes k e ≡ true → names F e ≡ true → place ≡ place_of F e → place < slots_of F → get_or found place false ≡ false
    → IsReadUpTo F bytes (suc k) (set gates k true) (set found place true)
read_note F bytes k gates found e place so_far lt opened spelt named place_is place_lt lacks0 =
    subst (λ (i : ℕ). IsReadUpTo F bytes (suc k) (set gates k true) (set found i true)) (sym place_is) (record {
      gates_size = length-set gates k true ∙ so_far.gates_size;
      found_size = length-set found (place_of F e) true ∙ so_far.found_size;
      balance = count_set gates k (omega (arith, lt, so_far.gates_size)) (so_far.shut k (omega arith)) ∙ ap (λ (c : ℕ). c + 1) so_far.balance ∙ sym (count_set found (place_of F e) fits lacks);
      opened = λ j jlt. elim (up_to j k jlt) [
        | inl less ↦ get_or-set_other gates k j true false (λ same. omega (arith, same, less)) ∙ so_far.opened j less
        | inr same ↦ ap (λ (i : ℕ). get_or (set gates k true) i false) same ∙ get_or-set_same gates k true false (omega (arith, lt, so_far.gates_size)) ∙ sym opened ∙ ap (λ (i : ℕ). is_open F bytes i) (sym same)
      ];
      shut = λ j ge. get_or-set_other gates k j true false (λ same. omega (arith, same, ge)) ∙ so_far.shut j (omega (arith, ge));
      entry = λ x. table_more F found e x named fits ∙ (λ i. so_far.entry x i || sym (here x) i);
      formed = and_from _ _ so_far.formed (or_last (not (is_open F bytes k)) _ (named_there F bytes k e named spelt));
      distinct = and_from _ _ so_far.distinct (or_last (not (is_open F bytes k)) _ (below_from k (one_apart F bytes k) apart));
    })
  where
    fits : place_of F e < length found
    fits = subst (λ (i : ℕ). i < length found) place_is (omega (arith, place_lt, so_far.found_size))

    lacks : get_or found (place_of F e) false ≡ false
    lacks = ap (λ (i : ℕ). get_or found i false) (sym place_is) ∙ lacks0

    here : (x : Entry) → (is_open F bytes k && spells F bytes k x) ≡ is_entry e x
    here x = (λ i. opened i && spells F bytes k x) ∙ spells_entry F bytes k e spelt x

    apart : (l : ℕ) → l < k → one_apart F bytes k l ≡ true
    apart l llt = elim (cases_Bool (is_open F bytes l)) [
      | inr closed ↦ one_shut (is_open F bytes l) _ closed
      | inl is_l ↦ or_last (not (is_open F bytes l)) _ (not_of (twice F bytes k l) (elim (cases_Bool (twice F bytes k l)) [
        | inr differs ↦ differs
        | inl same ↦ absurd (both_ways _ (sym (so_far.entry e) ∙ found_at F found e named ∙ lacks) (some_at k (λ j. is_open F bytes j && spells F bytes j e) l llt (and_from _ _ is_l (twice_spells F bytes k l e spelt same))))
      ]))
    ]

one_bad : (b c : Bool) → b ≡ true → c ≡ false → (not b || c) ≡ false
one_bad b c is isnt = rw (is, isnt) refl

-- a body that is in the form spells an entry that the form has
pub record Spelt (F : Form) (bytes : List ℕ) (k : ℕ) : Type 0 where
  pub entry : Entry
  pub named : names F entry ≡ true
  pub spells_it : spells F bytes k entry ≡ true

pub spelt_entry : (F : Form) (bytes : List ℕ) (k : ℕ) → is_spelt F bytes k ≡ true → Spelt F bytes k
spelt_entry F bytes k is =
    let there = some_found F.units (λ u. spells F bytes k (Begun u) || spells F bytes k (Complete u) || some_below (segments_of F u) (λ s. spells F bytes k (Marked u s))) is in
    of_unit there.at (lt-ltb there.at F.units there.below) there.holds
  where
    of_unit : (u : ℕ) → nat_lt u F.units ≡ true → (spells F bytes k (Begun u) || spells F bytes k (Complete u) || some_below (segments_of F u) (λ s. spells F bytes k (Marked u s))) ≡ true → Spelt F bytes k
    of_unit u lt is = elim (or_cases (spells F bytes k (Begun u) || spells F bytes k (Complete u)) _ is) [
      | inl plain ↦ elim (or_cases (spells F bytes k (Begun u)) _ plain) [
        | inl begun ↦ record { entry = Begun u; named = lt; spells_it = begun }
        | inr complete ↦ record { entry = Complete u; named = lt; spells_it = complete }
      ]
      | inr marks ↦
          let mark = some_found (segments_of F u) (λ s. spells F bytes k (Marked u s)) marks in
          record { entry = Marked u mark.at; named = and_from _ _ lt (lt-ltb mark.at (segments_of F u) mark.below); spells_it = mark.holds }
    ]

not_formed : (F : Form) (bytes : List ℕ) (k : ℕ) → k < slots_of F → is_open F bytes k ≡ true → (is_spelt F bytes k ≡ true → ⊥) → is_formed F bytes ≡ false
not_formed F bytes k lt opened none = not_below (slots_of F) (one_formed F bytes) k lt (one_bad (is_open F bytes k) _ opened (elim (cases_Bool (is_spelt F bytes k)) [ inl is ↦ absurd (none is) | inr isnt ↦ isnt ]))

pub bad_form : (F : Form) (bytes : List ℕ) (k : ℕ) → k < slots_of F → is_open F bytes k ≡ true → ((e : Entry) → spells F bytes k e ≡ false) → is_formed F bytes ≡ false
bad_form F bytes k lt opened none = not_formed F bytes k lt opened (λ is. let there = spelt_entry F bytes k is in both_ways _ (none there.entry) there.spells_it)

pub bad_name : (F : Form) (bytes : List ℕ) (k : ℕ) (e : Entry) → k < slots_of F → is_open F bytes k ≡ true → spells F bytes k e ≡ true → names F e ≡ false → is_formed F bytes ≡ false
bad_name F bytes k e lt opened spelt far = not_formed F bytes k lt opened (λ is.
    let there = spelt_entry F bytes k is in
    let same : e ≡ there.entry = entry_of e there.entry (sym (spells_entry F bytes k e spelt there.entry) ∙ there.spells_it) in
    both_ways _ far (subst (λ (x : Entry). names F x ≡ true) (sym same) there.named))

pub bad_twice : (F : Form) (bytes : List ℕ) (k : ℕ) (gates found : List Bool) (e : Entry) → names F e ≡ true → IsReadUpTo F bytes k gates found → k < slots_of F → is_open F bytes k ≡ true → spells F bytes k e ≡ true → get_or found (place_of F e) false ≡ true → is_distinct F bytes ≡ false
bad_twice F bytes k gates found e named so_far lt opened spelt there =
    let earlier = some_found k (λ j. is_open F bytes j && spells F bytes j e) (sym (so_far.entry e) ∙ found_at F found e named ∙ there) in
    let parts = and_parts _ _ earlier.holds in
    not_below (slots_of F) (one_distinct F bytes) k lt (one_bad (is_open F bytes k) _ opened
    (not_below k (one_apart F bytes k) earlier.at earlier.below (one_bad (is_open F bytes earlier.at) _ parts.0 (λ i. not (both_twice F bytes k earlier.at e spelt parts.1 i)))))

-- all slots are read
pub read_all : (F : Form) (bytes : List ℕ) (gates found : List Bool) → IsReadUpTo F bytes (slots_of F) gates found → IsRead F bytes gates found
read_all F bytes gates found all = record {
  gates_size = all.gates_size;
  found_size = all.found_size;
  balance = all.balance;
  gate = λ k lt. sym (all.opened k lt);
  entry = λ e. sym (all.entry e);
}

pub read_formed : (F : Form) (bytes : List ℕ) (gates found : List Bool) → IsReadUpTo F bytes (slots_of F) gates found → is_formed F bytes ≡ true
read_formed F bytes gates found all = all.formed

pub read_distinct : (F : Form) (bytes : List ℕ) (gates found : List Bool) → IsReadUpTo F bytes (slots_of F) gates found → is_distinct F bytes ≡ true
read_distinct F bytes gates found all = all.distinct
