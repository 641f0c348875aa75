-- The entries of a list, as a run of slots.
use Rattle.std.proofs.Common.{◌≡◌, ◌⊎◌, inl, inr, ℕ, zero, suc, ◌<◌, ◌≤◌, true, false, List, [], ◌∷◌, length, get_or, take, length-take, refl, sym, ◌∙◌, subst, arith}
use Rattle.std.specs.Prelude.{Bool, ◌&&◌, ◌||◌}
use Rattle.std.proofs.lemmas.Bool.{cases_Bool, or_cases, and_parts, both_ways}
use Rattle.std.proofs.lemmas.List.{get_or-take}
use Rattle.disk_model.specs.Disk.{DiskState}
use Rattle.flash_plan.specs.declared.outcome.Entry.{Entry}
use Rattle.flash_plan.specs.declared.outcome.Entry.TheVariants.{Begun}
use Rattle.flash_plan.specs.Outcomes.{same_entry, with_entry}
use Rattle.flash_base.specs.Numbers.{some_below}
use Rattle.journal_model.specs.Records.{Label, Form}
use Rattle.journal_steps.specs.Append.{Records, is_entry, and_some, with_entries, HasSome, HasSomeOf, AddsSome, AddsSomeOf, AddsAtMost, HasAddedGroup}
use Rattle.journal_steps.specs.Read.{is_among, AreOnce}
use Rattle.journal_steps.proofs.Group.{retold}
use Rattle.journal_steps.proofs.One.{both_if, entry_same, same_of, same_itself, same_sym, or_turned}
use Rattle.journal_steps.proofs.Reading.{some_found}
use Rattle.journal_steps.proofs.Same.{some_at}
use Rattle.journal_steps.proofs.Tables.{entry_of}

-- the entry at a place of the list
abbrev pub nth_entry : List Entry → ℕ → Entry
nth_entry es j = get_or es j (Begun 0)

or_left : (x y : Bool) → x ≡ true → (x || y) ≡ true
or_left x y is = rw is refl

or_right : (x y : Bool) → y ≡ true → (x || y) ≡ true
or_right true y is = refl
or_right false y is = is

pub among_at : (es : List Entry) (j : ℕ) → j < length es → is_among es (nth_entry es j) ≡ true
among_at [] j lt = absurd (omega (arith, lt))
among_at (e ∷ es) zero lt = or_left _ _ (same_itself e)
among_at (e ∷ es) (suc j) lt = or_right (same_entry e (nth_entry es j)) _ (among_at es j (omega (arith, lt)))

-- where an entry of the list stands
pub record Stands (es : List Entry) (e : Entry) : Type 0 where
  pub at : ℕ
  pub below : at < length es
  pub is : nth_entry es at ≡ e

pub among_found : (es : List Entry) (e : Entry) → is_among es e ≡ true → Stands es e
among_found [] e is = absurd (both_ways _ refl is)
among_found (x ∷ xs) e is = elim (or_cases (same_entry x e) (is_among xs e) is) [
  | inl here ↦ record { at = 0; below = omega arith; is = same_of x e here }
  | inr later ↦ let there = among_found xs e later in record { at = suc there.at; below = omega (arith, there.below); is = there.is }
]

not_true : (b : Bool) → (b ≡ true → ⊥) → b ≡ false
not_true true none = absurd (none refl)
not_true false none = refl

-- entries of a list that stand there once differ
pub once_differ : (es : List Entry) → AreOnce es → (i j : ℕ) → i < j → j < length es → is_entry (nth_entry es i) (nth_entry es j) ≡ false
once_differ [] once i j ij lt = absurd (omega (arith, lt))
once_differ (e ∷ es) once i zero ij lt = absurd (omega (arith, ij))
once_differ (e ∷ es) once zero (suc j) ij lt = not_true _ (λ is. both_ways _ once.0 (subst (λ (x : Entry). is_among es x ≡ true) (sym (entry_of e (nth_entry es j) is)) (among_at es j (omega (arith, lt)))))
once_differ (e ∷ es) once (suc i) (suc j) ij lt = once_differ es once.1 i j (omega (arith, ij)) (omega (arith, lt))

-- those of the first n places
pub some_first : (es : List Entry) (n : ℕ) → n ≤ length es → (x : Entry) → some_below n (λ j. true && is_entry (nth_entry es j) x) ≡ is_among (take n es) x
some_first es n le x = both_if _ _ forth back
  where
    size : length (take n es) ≡ n
    size = length-take n es ∙ omega (arith, le)

    forth : some_below n (λ j. true && is_entry (nth_entry es j) x) ≡ true → is_among (take n es) x ≡ true
    forth is =
        let there = some_found n (λ j. true && is_entry (nth_entry es j) x) is in
        let same : nth_entry (take n es) there.at ≡ x = get_or-take n es there.at (Begun 0) there.below ∙ entry_of (nth_entry es there.at) x there.holds in
        subst (λ (y : Entry). is_among (take n es) y ≡ true) same (among_at (take n es) there.at (omega (arith, there.below, size)))

    back : is_among (take n es) x ≡ true → some_below n (λ j. true && is_entry (nth_entry es j) x) ≡ true
    back is =
        let there = among_found (take n es) x is in
        let lt : there.at < n = omega (arith, there.below, size) in
        let same : nth_entry es there.at ≡ x = sym (get_or-take n es there.at (Begun 0) lt) ∙ there.is in
        some_at n (λ j. true && is_entry (nth_entry es j) x) there.at lt
        (entry_same (nth_entry es there.at) x ∙ subst (λ (y : Entry). same_entry y x ≡ true) (sym same) (same_itself x))

-- the records with the first n entries of the list
pub first_with : (R : Entry → Bool) (es : List Entry) (n : ℕ) → n ≤ length es → (x : Entry) → and_some R (λ j. true) (nth_entry es) n x ≡ with_entries (take n es) R x
first_with R es n le x = (λ i. R x || some_first es n le x i) ∙ or_turned (R x) (is_among (take n es) x)

module _ (P : Label) (R : Entry → Bool) (es : List Entry) (n : ℕ) (le : n ≤ length es) where
  -- an image with some of the run
  pub has_some : (image : List ℕ) → HasSome P R (nth_entry es) n image → HasSomeOf P R es image
  has_some image some = record {
    now = and_some R some.picked (nth_entry es) n;
    records = some.records;
    keeps = λ e is. or_left _ _ is;
    adds = λ e is. elim (or_cases (R e) _ is) [
      | inl old ↦ inl old
      | inr new ↦
          let there = some_found n (λ j. some.picked j && is_entry (nth_entry es j) e) new in
          inr (subst (λ (y : Entry). is_among es y ≡ true) (entry_of (nth_entry es there.at) e (and_parts _ _ there.holds).1) (among_at es there.at (omega (arith, there.below, le))))
    ];
  }

  pub adds_some : (disk : DiskState) → AddsSome P R (nth_entry es) n disk → AddsSomeOf P R es disk
  adds_some disk each image left = has_some image (each image left)

  pub all_added : (F : Form) (old : List ℕ) (k : ℕ) (disk : DiskState) → HasAddedGroup P F R old k (nth_entry es) n disk → Records P (with_entries (take n es) R) disk.bytes
  all_added F old k disk added = retold P (and_some R (λ j. true) (nth_entry es) n) (with_entries (take n es) R) disk.bytes (first_with R es n le) added.holds

or_false : (b : Bool) → (b || false) ≡ b
or_false true = refl
or_false false = refl

-- one entry: with it, or without
pub one_some : (P : Label) (R : Entry → Bool) (e : Entry) (image : List ℕ) → HasSomeOf P R (e ∷ []) image → Records P R image ⊎ Records P (with_entry e R) image
one_some P R e image some = elim (cases_Bool (some.now e)) [
  | inl is ↦ inr (retold P some.now (with_entry e R) image (λ x. both_if _ _ (λ there. in_one x (some.adds x there)) (λ there. elim (or_cases (same_entry x e) (R x) there) [
    | inl same ↦ subst (λ (y : Entry). some.now y ≡ true) (sym (same_of x e same)) is
    | inr old ↦ some.keeps x old
  ])) some.records)
  | inr isnt ↦ inl (retold P some.now R image (λ x. both_if _ _ (λ there. elim (some.adds x there) [
    | inl old ↦ old
    | inr new ↦ absurd (both_ways _ isnt (subst (λ (y : Entry). some.now y ≡ true) (sym (same_of e x (sym (or_false (same_entry e x)) ∙ new))) there))
  ]) (some.keeps x)) some.records)
]
  where
    in_one : (x : Entry) → (R x ≡ true) ⊎ (is_among (e ∷ []) x ≡ true) → with_entry e R x ≡ true
    in_one x (inl old) = or_right (same_entry x e) (R x) old
    in_one x (inr new) = or_left (same_entry x e) (R x) (same_sym x e ∙ sym (or_false (same_entry e x)) ∙ new)

pub one_adds : (P : Label) (R : Entry → Bool) (e : Entry) (disk : DiskState) → AddsSomeOf P R (e ∷ []) disk → AddsAtMost P R e disk
one_adds P R e disk each image left = one_some P R e image (each image left)
