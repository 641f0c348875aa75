-- The entries of a journal, as a list.
use Rattle.std.proofs.Common.{◌≡◌, ◌≢◌, inl, inr, ℕ, zero, suc, ◌+◌, ◌<◌, ◌≤◌, true, false, List, [], ◌∷◌, ◌++◌, length, get_or, Ok, Err, Result, refl, sym, ◌∙◌, ap, arith}
use Rattle.std.specs.Prelude.{Bool, ◌==◌, ◌&&◌, ◌||◌, nat_lt, OnOk}
use Rattle.std.proofs.lemmas.Bool.{cases_Bool, cases_lt, eqb-true, lt-ltb, le-ltb, false≢true, eq-eqb, and_parts}
use Rattle.barrier_board.specs.Board.{has_entry as is_found}
use Rattle.flash_bay.specs.Starting.{below, is_listed}
use Rattle.flash_journal.specs.Kept.{journal_label, journal_form, has_entry}
use Rattle.flash_journal.specs.declared.journal.Journal.{Journal}
use Rattle.flash_plan.specs.Outcomes.{same_entry}
use Rattle.flash_plan.specs.Plan.{plan_of, count_of}
use Rattle.flash_plan.specs.declared.outcome.Entry.{Entry}
use Rattle.flash_plan.specs.declared.outcome.Entry.TheVariants.{Begun, Marked, Complete}
use Rattle.flash_plan.specs.declared.unit.UnitPlan.{UnitPlan}
use Rattle.journal_model.specs.Records.{Label, label_of, names, segment_counts, unit_of}
use Rattle.journal_steps.proofs.Tables.{unit_named}

-- ------ or, and
or_none : (a : Bool) → (a || false) ≡ a
or_none true = refl
or_none false = refl

or_or : (a b c : Bool) → (a || (b || c)) ≡ ((a || b) || c)
or_or true b c = refl
or_or false b c = refl

and_none : (a : Bool) → (a && false) ≡ false
and_none true = refl
and_none false = refl

and_true : (a b : Bool) → b ≡ true → a ≡ (a && b)
and_true true b e = sym e
and_true false b e = refl

and_false : (a b : Bool) → b ≡ false → false ≡ (a && b)
and_false true b e = sym e
and_false false b e = refl

both : (a b : Bool) → ((a && b) || b) ≡ ((a || true) && b)
both true true = refl
both true false = refl
both false b = refl

none : (a b : Bool) → ((a && b) || false) ≡ ((a || false) && b)
none true true = refl
none true false = refl
none false b = refl

-- ------ one entry
found_more : (xs : List Entry) (e x : Entry) → is_found (xs ++ e ∷ []) x ≡ (is_found xs x || same_entry x e)
found_more [] e x = or_none (same_entry x e)
found_more (y ∷ ys) e x = ap (λ (b : Bool). same_entry x y || b) (found_more ys e x) ∙ or_or (same_entry x y) (is_found ys x) (same_entry x e)

-- pushed, where the journal has it
pub pushed : (xs ys : List Entry) (e x : Entry) (has : Bool) → has ≡ true → ys ≡ xs ++ e ∷ [] → is_found ys x ≡ (is_found xs x || (same_entry x e && has))
pushed xs ys e x has is more = ap (λ (l : List Entry). is_found l x) more ∙ found_more xs e x ∙ ap (λ (b : Bool). is_found xs x || b) (and_true (same_entry x e) has is)

pub left_out : (xs : List Entry) (e x : Entry) (has : Bool) → has ≡ false → is_found xs x ≡ (is_found xs x || (same_entry x e && has))
left_out xs e x has is = sym (or_none (is_found xs x)) ∙ ap (λ (b : Bool). is_found xs x || b) (and_false (same_entry x e) has is)

-- ------ one number more
lt_next : (m n : ℕ) → m ≢ n → nat_lt m n ≡ nat_lt m (n + 1)
lt_next m n ne = elim (cases_lt m n) [
  | inl lt ↦ lt-ltb m n lt ∙ sym (lt-ltb m (n + 1) (omega (arith, lt)))
  | inr le ↦ le-ltb m n le ∙ sym (le-ltb m (n + 1) (omega (arith, le, ne)))
]

one_more : (m n : ℕ) → (nat_lt m n || (m == n)) ≡ nat_lt m (n + 1)
one_more m n = elim (cases_Bool (m == n)) [
  | inl e ↦
      let is : m ≡ n = eqb-true m n e in
      let low : nat_lt m n ≡ false = le-ltb m n (omega (arith, is)) in
      (λ i. low i || e i) ∙ sym (lt-ltb m (n + 1) (omega (arith, is)))
  | inr e ↦ (λ i. nat_lt m n || e i) ∙ or_none (nat_lt m n) ∙ lt_next m n (λ is. false≢true (sym e ∙ eq-eqb m n is))
]

own : (a : Bool) (m n : ℕ) (J : ℕ → Bool) → ((a && J m) || ((m == n) && J n)) ≡ ((a || (m == n)) && J m)
own a m n J = elim (cases_Bool (m == n)) [
  | inl e ↦ (let is : m ≡ n = eqb-true m n e in (λ i. (a && J m) || (e i && J (sym is i))) ∙ both a (J m) ∙ (λ i. (a || sym e i) && J m))
  | inr e ↦ (λ i. (a && J m) || (e i && J n)) ∙ none a (J m) ∙ (λ i. (a || sym e i) && J m)
]

-- ------ the entries of one unit
abbrev Adds : List Entry → List Entry → Entry → Bool → Type 0
Adds xs ys e has = (x : Entry) → is_found ys x ≡ (is_found xs x || (same_entry x e && has))

abbrev Has : List Entry → (Entry → Bool) → (Entry → Bool) → Type 0
Has xs D J = (x : Entry) → is_found xs x ≡ (D x && J x)

no_mark : (m n k : ℕ) → nat_lt m n ≡ (nat_lt m n || ((m == n) && nat_lt k 0))
no_mark m n k =
    let not_first : nat_lt k 0 ≡ false = le-ltb k 0 (omega arith) in
    sym ((λ i. nat_lt m n || ((m == n) && not_first i)) ∙ (λ i. nat_lt m n || and_none (m == n) i) ∙ or_none (nat_lt m n))

pub after_begun : (xs ys : List Entry) (n : ℕ) (J : Entry → Bool) → ((x : Entry) → is_found xs x ≡ below n J x) → Adds xs ys (Begun n) (J (Begun n)) → Has ys (is_listed n 0) J
after_begun xs ys n J start more (Begun m) = more (Begun m) ∙ ap (λ (b : Bool). b || ((m == n) && J (Begun n))) (start (Begun m)) ∙ own (nat_lt m n) m n (λ k. J (Begun k))
after_begun xs ys n J start more (Marked m k) = more (Marked m k) ∙ or_none (is_found xs (Marked m k)) ∙ start (Marked m k) ∙ (λ i. no_mark m n k i && J (Marked m k))
after_begun xs ys n J start more (Complete m) = more (Complete m) ∙ or_none (is_found xs (Complete m)) ∙ start (Complete m) ∙ (λ i. sym (or_none (nat_lt m n)) i && J (Complete m))

marks : (a : Bool) (m n k s : ℕ) (J : ℕ → ℕ → Bool) → (((a || ((m == n) && nat_lt k s)) && J m k) || (((m == n) && (k == s)) && J n s)) ≡ ((a || ((m == n) && nat_lt k (s + 1))) && J m k)
marks a m n k s J = elim (cases_Bool (m == n)) [
  | inl e ↦
      let is : m ≡ n = eqb-true m n e in
      (λ i. ((a || (e i && nat_lt k s)) && J m k) || ((e i && (k == s)) && J (sym is i) s))
      ∙ own (a || nat_lt k s) k s (J m)
      ∙ (λ i. sym (or_or a (nat_lt k s) (k == s)) i && J m k)
      ∙ (λ i. (a || one_more k s i) && J m k)
      ∙ (λ i. (a || (sym e i && nat_lt k (s + 1))) && J m k)
  | inr e ↦
      (λ i. ((a || (e i && nat_lt k s)) && J m k) || ((e i && (k == s)) && J n s))
      ∙ or_none ((a || false) && J m k)
      ∙ (λ i. (a || (sym e i && nat_lt k (s + 1))) && J m k)
]

pub after_mark : (xs ys : List Entry) (n s : ℕ) (J : Entry → Bool) → Has xs (is_listed n s) J → Adds xs ys (Marked n s) (J (Marked n s)) → Has ys (is_listed n (s + 1)) J
after_mark xs ys n s J start more (Begun m) = more (Begun m) ∙ or_none (is_found xs (Begun m)) ∙ start (Begun m)
after_mark xs ys n s J start more (Marked m k) =
    more (Marked m k) ∙ ap (λ (b : Bool). b || (((m == n) && (k == s)) && J (Marked n s))) (start (Marked m k)) ∙ marks (nat_lt m n) m n k s (λ u t. J (Marked u t))
after_mark xs ys n s J start more (Complete m) = more (Complete m) ∙ or_none (is_found xs (Complete m)) ∙ start (Complete m)

all_marks : (m n k c : ℕ) (J : ℕ → ℕ → Bool) → ((t : ℕ) → c ≤ t → J n t ≡ false) → ((nat_lt m n || ((m == n) && nat_lt k c)) && J m k) ≡ (nat_lt m (n + 1) && J m k)
all_marks m n k c J past = elim (cases_Bool (m == n)) [
  | inl e ↦ elim (cases_lt k c) [
    | inl lt ↦ (λ i. (nat_lt m n || (e i && lt-ltb k c lt i)) && J m k) ∙ (λ i. (nat_lt m n || sym e i) && J m k) ∙ (λ i. one_more m n i && J m k)
    | inr le ↦
        let is : m ≡ n = eqb-true m n e in
        let no : J m k ≡ false = ap (λ (u : ℕ). J u k) is ∙ past k le in
        (λ i. (nat_lt m n || ((m == n) && nat_lt k c)) && no i) ∙ and_none (nat_lt m n || ((m == n) && nat_lt k c)) ∙ sym (and_none (nat_lt m (n + 1))) ∙ (λ i. nat_lt m (n + 1) && sym no i)
  ]
  | inr e ↦ (λ i. (nat_lt m n || (e i && nat_lt k c)) && J m k) ∙ (λ i. (nat_lt m n || sym e i) && J m k) ∙ (λ i. one_more m n i && J m k)
]

pub after_complete : (xs ys : List Entry) (n c : ℕ) (J : Entry → Bool) → ((k : ℕ) → c ≤ k → J (Marked n k) ≡ false) → Has xs (is_listed n c) J → Adds xs ys (Complete n) (J (Complete n)) → (x : Entry) → is_found ys x ≡ below (n + 1) J x
after_complete xs ys n c J past start more (Begun m) = more (Begun m) ∙ or_none (is_found xs (Begun m)) ∙ start (Begun m) ∙ (λ i. one_more m n i && J (Begun m))
after_complete xs ys n c J past start more (Marked m k) = more (Marked m k) ∙ or_none (is_found xs (Marked m k)) ∙ start (Marked m k) ∙ all_marks m n k c (λ u t. J (Marked u t)) past
after_complete xs ys n c J past start more (Complete m) =
    more (Complete m) ∙ ap (λ (b : Bool). b || ((m == n) && J (Complete n))) (start (Complete m)) ∙ own (nat_lt m n || false) m n (λ k. J (Complete k))
    ∙ (λ i. (or_none (nat_lt m n) i || (m == n)) && J (Complete m)) ∙ (λ i. one_more m n i && J (Complete m))

-- ------ a journal has no others
pub all_below : (j : Journal) (P : List UnitPlan) (n : ℕ) (x : Entry) → journal_label j ≡ label_of P → count_of P ≤ n → below n (has_entry j) x ≡ has_entry j x
all_below j P n x label le = elim (cases_Bool (has_entry j x)) [
  | inl e ↦
      let lt : unit_of x < length (journal_label j).segments = unit_named (journal_form j) x (and_parts _ _ e).0 in
      let lower : nat_lt (unit_of x) n ≡ true = lt-ltb (unit_of x) n (omega (arith, lt, le, ap (λ (L : Label). length L.segments) label, counts_length P)) in
      (λ i. lower i && has_entry j x)
  | inr e ↦ (λ i. nat_lt (unit_of x) n && e i) ∙ and_none (nat_lt (unit_of x) n) ∙ sym e
]
  where
    counts_length : (Q : List UnitPlan) → length (segment_counts Q) ≡ length Q
    counts_length [] = refl
    counts_length (u ∷ us) = ap (λ (n : ℕ). suc n) (counts_length us)

pub counts_at : (P : List UnitPlan) (n : ℕ) → n < count_of P → get_or (segment_counts P) n 0 ≡ length (plan_of P n).segments
counts_at [] n lt = absurd (omega (arith, lt))
counts_at (u ∷ us) zero lt = refl
counts_at (u ∷ us) (suc n) lt = counts_at us n (omega (arith, lt))

-- no mark behind the segments of its unit
pub no_more : (j : Journal) (P : List UnitPlan) (n c : ℕ) → journal_label j ≡ label_of P → n < count_of P → c ≡ length (plan_of P n).segments → (k : ℕ) → c ≤ k → has_entry j (Marked n k) ≡ false
no_more j P n c label lt is k le = elim (cases_Bool (has_entry j (Marked n k))) [
  | inl e ↦
      let named = and_parts (nat_lt n (length (journal_label j).segments)) (nat_lt k (get_or (journal_label j).segments n 0)) (and_parts (names (journal_form j) (Marked n k)) _ e).0 in
      let size : get_or (journal_label j).segments n 0 ≡ c = ap (λ (L : Label). get_or L.segments n 0) label ∙ counts_at P n lt ∙ sym is in
      let past : nat_lt k (get_or (journal_label j).segments n 0) ≡ false = ap (λ (m : ℕ). nat_lt k m) size ∙ le-ltb k c le in
      absurd (false≢true (sym past ∙ named.1))
  | inr e ↦ e
]

pub none_below : (J : Entry → Bool) (x : Entry) → false ≡ below 0 J x
none_below J x = let not_first : nat_lt (unit_of x) 0 ≡ false = le-ltb (unit_of x) 0 (omega arith) in (λ i. sym not_first i && J x)

pub on_ok : {E : Type 0} {A B : Type 0} (r : Result Unit E) → OnOk r A → (A → B) → OnOk r B
on_ok (Ok x) a f = f a
on_ok (Err e) a f = tt
