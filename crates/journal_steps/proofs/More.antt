-- A journal with one more gate open, behind which an entry stands, records that entry too.
use Rattle.std.proofs.Common.{◌≡◌, inl, inr, ℕ, zero, suc, ◌+◌, ◌<◌, true, false, List, length, slice_index, refl, sym, ◌∙◌, ap, subst, arith}
use Rattle.std.specs.Prelude.{◌==◌, Bool, not, ◌&&◌, ◌||◌, nat_le}
use Rattle.std.proofs.lemmas.Bool.{cases_Bool, cases_eq, or_cases, and_parts, and_from, and_left, both_ways, eq-eqb, eqb-true}
use Rattle.flash_plan.specs.declared.outcome.Entry.{Entry}
use Rattle.flash_plan.specs.declared.outcome.Entry.TheVariants.{Begun, Marked, Complete}
use Rattle.flash_base.specs.Numbers.{each_below, some_below}
use Rattle.journal_model.specs.Records.{Form, slots_of, segments_of, end_of, body_at, is_open, spells, is_spelt, has, is_formed, is_distinct, is_ordered, is_filled, body_of, unit_of, names}
use Rattle.journal_steps.proofs.Slots.{below_at, below_from, below_same}
use Rattle.journal_steps.specs.Append.{IsPrepared, is_entry}
use Rattle.journal_steps.proofs.Same.{ordered_told, Agrees, some_same, some_at, spells_same, slot_same, formed_same, apart_same}
use Rattle.journal_steps.specs.Read.{twice, one_formed, one_apart, one_distinct, one_ordered}
use Rattle.journal_steps.proofs.Tables.{mark_of, unit_named, entry_of}

or_one : (s b : Bool) → (s || b) ≡ ((s || false) || b)
or_one true b = refl
or_one false b = refl

or_two : (s b c : Bool) → ((s || b) || c) ≡ ((s || c) || b)
or_two true b c = refl
or_two false true true = refl
or_two false true false = refl
or_two false false true = refl
or_two false false false = refl

-- a test that changes at k alone
some_more : (n k : ℕ) (p q : ℕ → Bool) (b : Bool) → k < n → p k ≡ false → q k ≡ b → ((j : ℕ) → j < n → (j ≡ k → ⊥) → q j ≡ p j) → some_below n q ≡ (some_below n p || b)
some_more zero k p q b lt was is same = absurd (omega (arith, lt))
some_more (suc n) k p q b lt was is same = elim (cases_eq k n) [
  | inl e ↦
      let below : some_below n q ≡ some_below n p = some_same n q p (λ j jlt. same j (omega (arith, jlt)) (λ jk. omega (arith, jk, e, jlt))) in
      let q_is : q n ≡ b = subst (λ (m : ℕ). q m ≡ b) e is in
      let p_is : p n ≡ false = subst (λ (m : ℕ). p m ≡ false) e was in
      (λ i. below i || q_is i) ∙ or_one (some_below n p) b ∙ (λ i. (some_below n p || sym p_is i) || b)
  | inr ne ↦
      let below = some_more n k p q b (omega (arith, lt, ne)) was is (λ j jlt. same j (omega (arith, jlt))) in
      (λ i. below i || same n (omega arith) (λ e. ne (sym e)) i) ∙ or_two (some_below n p) b (p n)
]

-- one unit's order, with an entry more
ordered_one : (F : Form) (R : Entry → Bool) (e0 : Entry) → IsPrepared R e0 → (v : ℕ) → one_ordered F R v ≡ true → one_ordered F (λ x. R x || is_entry e0 x) v ≡ true
ordered_one F R e0 prepared v was = elim (or_cases (R (Begun v)) _ was) [
  | inl begun ↦ or_first _ _ (or_first _ _ begun)
  | inr rest ↦ elim (cases_Bool (R (Begun v))) [
    | inl begun ↦ or_first _ _ (or_first _ _ begun)
    | inr none ↦
        let parts = and_parts _ _ rest in
        let stays : (x : Entry) → unit_of x ≡ v → needs x ≡ true → not (R x) ≡ true → not (R x || is_entry e0 x) ≡ true = λ x of behind_it isnt. still (R x) (is_entry e0 x) isnt (λ same. not_prepared x of behind_it none (subst (λ (y : Entry). IsPrepared R y) (entry_of e0 x same) prepared)) in
        or_second _ _ (and_from _ _ (stays (Complete v) refl refl parts.0)
        (below_from (segments_of F v) (λ s. not (R (Marked v s) || is_entry e0 (Marked v s))) (λ s slt. stays (Marked v s) refl refl (below_at (segments_of F v) (λ s. not (R (Marked v s))) parts.1 s slt))))
  ]
]
  where
    or_first : (x y : Bool) → x ≡ true → (x || y) ≡ true
    or_first x y is = rw is refl

    or_second : (x y : Bool) → y ≡ true → (x || y) ≡ true
    or_second true y is = refl
    or_second false y is = is

    -- an entry that comes behind a begin
    needs : Entry → Bool
    needs (Begun u) = false
    needs (Marked u s) = true
    needs (Complete u) = true

    still : (a b : Bool) → not a ≡ true → (b ≡ true → ⊥) → not (a || b) ≡ true
    still true b isnt none = isnt
    still false true isnt none = absurd (none refl)
    still false false isnt none = refl

    not_prepared : (x : Entry) → unit_of x ≡ v → needs x ≡ true → R (Begun v) ≡ false → IsPrepared R x → ⊥
    not_prepared (Begun u) of behind_it none is = both_ways _ refl behind_it
    not_prepared (Marked u s) of behind_it none is = both_ways _ none ((λ i. R (Begun (sym of i))) ∙ is)
    not_prepared (Complete u) of behind_it none is = both_ways _ none ((λ i. R (Begun (sym of i))) ∙ is)

pub prepared_same : (R Q : Entry → Bool) (e0 : Entry) → ((x : Entry) → Q x ≡ R x) → IsPrepared R e0 → IsPrepared Q e0
prepared_same R Q (Begun u) same is = tt
prepared_same R Q (Marked u s) same is = same (Begun u) ∙ is
prepared_same R Q (Complete u) same is = same (Begun u) ∙ is

-- a body that spells an entry of the form is in the form
pub named_there : (F : Form) (image : List ℕ) (k : ℕ) (e0 : Entry) → names F e0 ≡ true → spells F image k e0 ≡ true → is_spelt F image k ≡ true
named_there F image k e0 named is = some_at F.units (λ u. spells F image k (Begun u) || spells F image k (Complete u) || some_below (segments_of F u) (λ s. spells F image k (Marked u s)))
    (unit_of e0) (unit_named F e0 named) (here e0 named is)
  where
    or_left : (x y z : Bool) → x ≡ true → (x || y || z) ≡ true
    or_left x y z is = rw is refl

    or_middle : (x y z : Bool) → y ≡ true → (x || y || z) ≡ true
    or_middle true y z is = refl
    or_middle false y z is = rw is refl

    or_right : (x y z : Bool) → z ≡ true → (x || y || z) ≡ true
    or_right true y z is = refl
    or_right false true z is = refl
    or_right false false z is = is

    here : (e : Entry) → names F e ≡ true → spells F image k e ≡ true → (spells F image k (Begun (unit_of e)) || spells F image k (Complete (unit_of e)) || some_below (segments_of F (unit_of e)) (λ s. spells F image k (Marked (unit_of e) s))) ≡ true
    here (Begun u) named is = or_left (spells F image k (Begun u)) (spells F image k (Complete u)) (some_below (segments_of F u) (λ s. spells F image k (Marked u s))) is
    here (Marked u s) named is = or_right (spells F image k (Begun u)) (spells F image k (Complete u)) (some_below (segments_of F u) (λ t. spells F image k (Marked u t))) (some_at (segments_of F u) (λ t. spells F image k (Marked u t)) s (mark_of F u s named).segment is)
    here (Complete u) named is = or_middle (spells F image k (Begun u)) (spells F image k (Complete u)) (some_below (segments_of F u) (λ s. spells F image k (Marked u s))) is

module _ (F : Form) (base image : List ℕ) (k : ℕ) (e0 : Entry) (lt : k < slots_of F) (named : names F e0 ≡ true)
    (closed : is_open F base k ≡ false) (opened : is_open F image k ≡ true)
    (others : (j : ℕ) → j < slots_of F → (j ≡ k → ⊥) → Agrees F base image j)
    (body : (t : ℕ) → t < 16 → slice_index image (body_at F k + t) ≡ slice_index (body_of e0) t)
    (fresh : has F base e0 ≡ false) (prepared : IsPrepared (has F base) e0) where
  spelt : (x : Entry) → spells F image k x ≡ is_entry e0 x
  spelt x = below_same 16 (λ j. slice_index image (body_at F k + j) == slice_index (body_of x) j) (λ j. slice_index (body_of e0) j == slice_index (body_of x) j) (λ t tlt. ap (λ (b : ℕ). b == slice_index (body_of x) t) (body t tlt))

  pub has_more : (x : Entry) → has F image x ≡ (has F base x || is_entry e0 x)
  has_more x = some_more (slots_of F) k (λ j. is_open F base j && spells F base j x) (λ j. is_open F image j && spells F image j x) (is_entry e0 x) lt
      (and_left _ _ closed) ((λ i. opened i && spells F image k x) ∙ spelt x) (λ j jlt ne. slot_same F base image j (others j jlt ne) x)

  spelt_itself : spells F image k e0 ≡ true
  spelt_itself = below_from 16 (λ j. slice_index image (body_at F k + j) == slice_index (body_of e0) j) (λ t tlt. eq-eqb _ _ (body t tlt))

  all_formed : is_formed F base ≡ true → is_formed F image ≡ true
  all_formed was = below_from (slots_of F) (one_formed F image) (λ j jlt. elim (cases_eq j k) [
    | inl e ↦ subst (λ (i : ℕ). one_formed F image i ≡ true) (sym e) here
    | inr ne ↦ formed_same F base image j (others j jlt ne) ∙ below_at (slots_of F) (one_formed F base) was j jlt
  ])
    where
      there : is_spelt F image k ≡ true
      there = named_there F image k e0 named spelt_itself

      here : one_formed F image k ≡ true
      here = rw (opened, there) refl

  -- no open slot has the entry already
  not_there : (j : ℕ) → j < slots_of F → (j ≡ k → ⊥) → is_open F base j ≡ true → spells F image j e0 ≡ true → ⊥
  not_there j jlt ne is spells_it =
      let in_base = sym (spells_same F base image j (others j jlt ne) is e0) ∙ spells_it in
      both_ways _ fresh (some_at (slots_of F) (λ i. is_open F base i && spells F base i e0) j jlt (and_from _ _ is in_base))

  -- slots j and l of which one is k
  apart_before : (j : ℕ) → j < slots_of F → (j ≡ k → ⊥) → is_open F base j ≡ true → twice F image j k ≡ true → ⊥
  apart_before j jlt ne is same = not_there j jlt ne is (below_from 16 (λ t. slice_index image (body_at F j + t) == slice_index (body_of e0) t)
      (λ t tlt. (λ i. slice_index image (body_at F j + t) == sym (body t tlt) i) ∙ below_at 16 (λ s. slice_index image (body_at F j + s) == slice_index image (body_at F k + s)) same t tlt))

  apart_after : (l : ℕ) → l < slots_of F → (l ≡ k → ⊥) → is_open F base l ≡ true → twice F image k l ≡ true → ⊥
  apart_after l llt ne is same = apart_before l llt ne is (below_from 16 (λ t. slice_index image (body_at F l + t) == slice_index image (body_at F k + t))
      (λ t tlt. eq-eqb _ _ (sym (eqb-true _ _ (below_at 16 (λ s. slice_index image (body_at F k + s) == slice_index image (body_at F l + s)) same t tlt)))))

  unequal : (l : ℕ) (same : Bool) → (same ≡ true → ⊥) → (not (is_open F image l) || not same) ≡ true
  unequal l same isnt = elim (cases_Bool same) [ inl is ↦ absurd (isnt is) | inr is ↦ rw is (or_true _) ]
    where
      or_true : (b : Bool) → (not b || true) ≡ true
      or_true true = refl
      or_true false = refl

  shut : (l : ℕ) (b : Bool) → is_open F image l ≡ false → (not (is_open F image l) || b) ≡ true
  shut l b is = rw is refl

  below_new : (l : ℕ) → l < k → one_apart F image k l ≡ true
  below_new l llt =
      let ne : l ≡ k → ⊥ = λ e. omega (arith, e, llt) in
      let agrees = others l (omega (arith, llt, lt)) ne in
      elim (cases_Bool (is_open F base l)) [
        | inl is ↦ unequal l (twice F image k l) (apart_after l (omega (arith, llt, lt)) ne is)
        | inr is ↦ shut l _ (agrees.gate ∙ is)
      ]

  below_old : (j : ℕ) → j < slots_of F → (j ≡ k → ⊥) → is_open F base j ≡ true → one_distinct F base j ≡ true → (l : ℕ) → l < j → one_apart F image j l ≡ true
  below_old j jlt ne is was l llt = elim (cases_eq l k) [
    | inl e ↦ subst (λ (i : ℕ). one_apart F image j i ≡ true) (sym e) (unequal k (twice F image j k) (apart_before j jlt ne is))
    | inr nl ↦
        let each : each_below j (one_apart F base j) ≡ true = rw is at was in
        apart_same F base image j l (others j jlt ne) is (others l (omega (arith, llt, jlt)) nl) ∙ below_at j (one_apart F base j) each l llt
  ]

  all_distinct : is_distinct F base ≡ true → is_distinct F image ≡ true
  all_distinct was = below_from (slots_of F) (one_distinct F image) (λ j jlt. elim (cases_eq j k) [
    | inl e ↦ subst (λ (i : ℕ). one_distinct F image i ≡ true) (sym e) (or_true (not (is_open F image k)) _ (below_from k (one_apart F image k) below_new))
    | inr ne ↦ elim (cases_Bool (is_open F base j)) [
      | inl is ↦ or_true (not (is_open F image j)) _ (below_from j (one_apart F image j) (below_old j jlt ne is (below_at (slots_of F) (one_distinct F base) was j jlt)))
      | inr is ↦ shut j _ ((others j jlt ne).gate ∙ is)
    ]
  ])
    where
      or_true : (b c : Bool) → c ≡ true → (b || c) ≡ true
      or_true true c is = refl
      or_true false c is = is

  all_ordered : is_ordered F base ≡ true → is_ordered F image ≡ true
  all_ordered was = ordered_told F (has F image) (λ x. has F base x || is_entry e0 x) has_more
      ∙ below_from F.units (one_ordered F (λ x. has F base x || is_entry e0 x)) (λ v vlt. ordered_one F (has F base) e0 prepared v (below_at F.units (one_ordered F (has F base)) was v vlt))

  pub filled_more : length image ≡ length base → is_filled F base ≡ true → is_filled F image ≡ true
  filled_more size was =
      let q3 = and_parts _ _ was in
      let q2 = and_parts _ _ q3.0 in
      let q1 = and_parts _ _ q2.0 in
      let long : nat_le (end_of F) (length image) ≡ true = (λ i. nat_le (end_of F) (size i)) ∙ q1.0 in
      and_from _ _ (and_from _ _ (and_from _ _ long (all_formed q1.1)) (all_distinct q2.1)) (all_ordered q3.1)
