-- The drafts of a drill make its plan, which is accepted.
use Rattle.std.proofs.Common.{◌≡◌, ◌∙◌, inl, inr, ℕ, zero, suc, ◌+◌, ◌-◌, ◌*◌, ◌/◌, ◌%◌, ◌<◌, ◌≤◌, List, [], ◌∷◌, codes, length, map, Bool, true, false, cond, nat_lt, nat_le, get_or, Contains, None, Ok, IsTrue, refl, sym, ap, subst, arith}
use Rattle.std.specs.List.{list_any, range_with_len}
use Rattle.std.proofs.lemmas.Bool.Decides.{nat_tests}
use Rattle.std.proofs.lemmas.Bool.{cases_lt}
use Rattle.std.proofs.lemmas.List.FromFn.{get_or-range_with_len, length-map-range_with_len}
use Rattle.bench_gen.specs.Sizes.{all_bytes_of, bytes_of, image_byte, image_of, numbered, units_of}
use Rattle.flash_base.specs.Lists.{Each}
use Rattle.flash_plan.specs.Accepting.{IsAsked, IsDraft, IsOrdered, IsPlanAnswer, draft_of, first_from, first_task, has_long_value, has_many_idents, has_same_address, has_same_name, has_unknown, has_wide, is_large, is_split, is_wide, no_draft, too_many, total_of_drafts}
use Rattle.flash_plan.specs.Accepting as accepting
use Rattle.flash_plan.specs.Plan.{IsAccepted, StandsBefore, before, is_name_byte, next_to, no_plan, nth_plan, plan_of, total_of}
use Rattle.flash_plan.specs.declared.unit.Draft.{Draft}
use Rattle.flash_plan.specs.declared.unit.UnitPlan.{UnitPlan}
use Rattle.flash_plan.proofs.Accepted.{accepted_plan}
use Rattle.drill_law.specs.Plans.{key_rule, plan_of_drill, unit_plan, wanted, width}
use Rattle.drill_law.proofs.Matched.{plan_unit}
use Rattle.drill_law.proofs.Tables.{Rows, row, row_of}

abbrev pub draft : ℕ → ℕ → Draft
draft n k = record {
  name = numbered (codes "U") k;
  address = 4096 + k;
  width = width;
  check = 514;
  key = key_rule;
  idents = wanted ∷ [];
  after = map (numbered (codes "U")) (Rattle.bench_gen.specs.Sizes.before k);
  segments = record { at = 65536; body = image_of n k } ∷ [];
}

abbrev pub drafts_for : ℕ → ℕ → List Draft
drafts_for n units = map (draft n) (range_with_len 0 units)

abbrev pub drafts : ℕ → List Draft
drafts n = drafts_for n (units_of n)

image_length : (n k : ℕ) → length (image_of n k) ≡ bytes_of n
image_length n k = length-map-range_with_len (image_byte n k) 0 (bytes_of n)

-- ------ what computes for each number of units
abbrev HasNames : ℕ → Type 0
HasNames units = (n : ℕ) → first_task (drafts_for n units) (has_same_name (drafts_for n units)) ≡ None

all_names : Rows HasNames 2 11
all_names = (
  λ n. refl,
  (
    λ n. refl,
    (
      λ n. refl,
      (
        λ n. refl,
        (
          λ n. refl,
          (
            λ n. refl,
            (λ n. refl, (λ n. refl, (λ n. refl, (λ n. refl, (λ n. refl, tt))))),
          ),
        ),
      ),
    ),
  ),
)

abbrev HasAddresses : ℕ → Type 0
HasAddresses units = (n : ℕ) → first_task (drafts_for n units) (has_same_address (drafts_for n units)) ≡ None

all_addresses : Rows HasAddresses 2 11
all_addresses = (
  λ n. refl,
  (
    λ n. refl,
    (
      λ n. refl,
      (
        λ n. refl,
        (
          λ n. refl,
          (
            λ n. refl,
            (λ n. refl, (λ n. refl, (λ n. refl, (λ n. refl, (λ n. refl, tt))))),
          ),
        ),
      ),
    ),
  ),
)

abbrev KnowsAll : ℕ → Type 0
KnowsAll units = (n : ℕ) → first_task (drafts_for n units) (has_unknown (drafts_for n units)) ≡ None

all_known : Rows KnowsAll 2 11
all_known = (
  λ n. refl,
  (
    λ n. refl,
    (
      λ n. refl,
      (
        λ n. refl,
        (
          λ n. refl,
          (
            λ n. refl,
            (λ n. refl, (λ n. refl, (λ n. refl, (λ n. refl, (λ n. refl, tt))))),
          ),
        ),
      ),
    ),
  ),
)

abbrev MakesUnits : ℕ → Type 0
MakesUnits units = (n : ℕ) → map (unit_plan n) (range_with_len 0 units) ≡ accepting.units_of (drafts_for n units)

all_made : Rows MakesUnits 2 11
all_made = (
  λ n. refl,
  (
    λ n. refl,
    (
      λ n. refl,
      (
        λ n. refl,
        (
          λ n. refl,
          (
            λ n. refl,
            (λ n. refl, (λ n. refl, (λ n. refl, (λ n. refl, (λ n. refl, tt))))),
          ),
        ),
      ),
    ),
  ),
)

pub plan_is : (n : ℕ) → plan_of_drill n ≡ accepting.units_of (drafts n)
plan_is n = row MakesUnits 2 11 all_made (n % 11) (omega arith) n

-- ------ limits
none_any : (test : Draft → Bool) (n a m : ℕ) → ((k : ℕ) → test (draft n k) ≡ false) → list_any test (map (draft n) (range_with_len a m)) ≡ false
none_any test n a zero each = refl
none_any test n a (suc m) each = rw (each a, none_any test n (a + 1) m each) refl

total_few : (n a m : ℕ) → total_of_drafts (map (draft n) (range_with_len a m)) ≤ m * 1048576
total_few n a zero = omega arith
total_few n a (suc m) =
    let rest = total_few n (a + 1) m in
    let one = image_length n a in
    let e : total_of_drafts (map (draft n) (range_with_len a (suc m))) ≡ length (image_of n a) + 0 + total_of_drafts (map (draft n) (range_with_len (a + 1) m)) = refl in
    omega (arith, rest, one, e)

not_large : (n k : ℕ) → is_large (draft n k) ≡ false
not_large n k =
    let l = image_length n k in
    let few : length (image_of n k) + 0 ≤ 16777216 = omega (arith, l) in
    grind (arith, nat_tests, few)

not_many : (n : ℕ) → too_many (drafts n) ≡ None
not_many n =
    let l : length (drafts n) ≡ units_of n = length-map-range_with_len (draft n) 0 (units_of n) in
    let few : length (drafts n) ≤ 64 = omega (arith, l) in
    let a : nat_lt 64 (length (drafts n)) ≡ false = grind (arith, nat_tests, few) in
    let b = none_any is_split n 0 (units_of n) (λ k. refl) in
    let c = none_any is_large n 0 (units_of n) (not_large n) in
    let t = total_few n 0 (units_of n) in
    let small : total_of_drafts (drafts n) ≤ 67108864 = omega (arith, t) in
    let d : nat_lt 67108864 (total_of_drafts (drafts n)) ≡ false = grind (arith, nat_tests, small) in
    let e = none_any has_many_idents n 0 (units_of n) (λ k. refl) in
    rw (a, b, c, d, e) refl

-- ------ widths
first_none : (test : ℕ → Bool) (a m : ℕ) → ((j : ℕ) → j < a + m → test j ≡ false) → first_from a m test ≡ None
first_none test a zero h = refl
first_none test a (suc m) h =
    let here : test a ≡ false = h a (omega arith) in
    rw here (first_none test (a + 1) m (λ j l. h j (omega (arith, l))))

nth_draft : (n a m k : ℕ) → k < m → draft_of (map (draft n) (range_with_len a m)) k ≡ draft n (a + k)
nth_draft n a zero k h = absurd (omega (arith, h))
nth_draft n a (suc m) zero h = let e : a ≡ a + 0 = omega arith in ap (draft n) e
nth_draft n a (suc m) (suc k) h = let e : a + 1 + k ≡ a + suc k = omega arith in nth_draft n (a + 1) m k (omega (arith, h)) ∙ ap (draft n) e

not_wide : (n k : ℕ) → list_any (is_wide width) (record { at = 65536; body = image_of n k } ∷ []) ≡ false
not_wide n k =
    let l = image_length n k in
    let few : length (image_of n k) < 4294967296 = omega (arith, l) in
    let low : 65536 + length (image_of n k) ≤ 4294967296 = omega (arith, l) in
    let a : nat_le 4294967296 (length (image_of n k)) ≡ false = grind (arith, nat_tests, few) in
    let b : nat_lt 4294967296 (65536 + length (image_of n k)) ≡ false = grind (arith, nat_tests, low) in
    rw (a, b) refl

none_wide : (n : ℕ) → first_task (drafts n) (has_wide (drafts n)) ≡ None
none_wide n =
    let l : length (drafts n) ≡ units_of n = length-map-range_with_len (draft n) 0 (units_of n) in
    first_none (has_wide (drafts n)) 0 (length (drafts n))
    (λ j h. ap (λ (d : Draft). list_any (is_wide d.width) d.segments) (nth_draft n 0 (units_of n) j (omega (arith, h, l))) ∙ not_wide n (0 + j))

-- ------ each draft is in the form
abbrev IsLettered : ℕ → Type 0
IsLettered k = Each (λ b. IsTrue (is_name_byte b)) (numbered (codes "U") k)

all_lettered : Rows IsLettered 0 12
all_lettered = (
  (refl, (refl, (refl, tt))),
  (
    (refl, (refl, (refl, tt))),
    (
      (refl, (refl, (refl, tt))),
      (
        (refl, (refl, (refl, tt))),
        (
          (refl, (refl, (refl, tt))),
          (
            (refl, (refl, (refl, tt))),
            ((refl, (refl, (refl, tt))), ((refl, (refl, (refl, tt))), ((refl, (refl, (refl, tt))), ((refl, (refl, (refl, tt))), ((refl, (refl, (refl, tt))), ((refl, (refl, (refl, tt))), tt)))))),
          ),
        ),
      ),
    ),
  ),
)

draft_is : (n k : ℕ) → k < 12 → IsDraft (draft n k)
draft_is n k low =
    let l = image_length n k in
    let some : 1 ≤ length (image_of n k) = omega (arith, l) in
    record {
      name = record { some = omega arith; short = omega arith; letters = row_of IsLettered 12 all_lettered k low };
      address = omega (arith, low);
      width = (omega arith, omega arith, omega arith, omega arith);
      check_range = omega arith;
      check = λ e. let f : 514 ≡ 65280 = e in absurd (omega (arith, f));
      check_too = λ e. let f : 514 ≡ 65281 = e in absurd (omega (arith, f));
      key = ((refl, omega arith), omega arith, omega arith);
      idents = (record { did = omega arith; some = omega arith; filled = (omega arith, tt) }, tt);
      some = omega arith;
      filled = (some, tt);
      apart = (tt, tt);
    }

drafts_are : (n a m : ℕ) → a + m ≤ 12 → Each IsDraft (map (draft n) (range_with_len a m))
drafts_are n a zero h = tt
drafts_are n a (suc m) h = (draft_is n a (omega (arith, h)), drafts_are n (a + 1) m (omega (arith, h)))

-- ------ no task stands before itself
nth_past : (n a m k : ℕ) → m ≤ k → nth_plan (map (unit_plan n) (range_with_len a m)) k ≡ no_plan
nth_past n a zero k h = refl
nth_past n a (suc m) zero h = absurd (omega (arith, h))
nth_past n a (suc m) (suc k) h = nth_past n (a + 1) m k (omega (arith, h))

in_group : (k w : ℕ) → Contains (Rattle.bench_gen.specs.Sizes.before k) w → w < k
in_group k w c = elim (cases_lt k 4) [
  | inl lt ↦
      let t : nat_lt k 4 ≡ true = grind (arith, nat_tests, lt) in
      let none : Contains {X = ℕ} [] w = subst (λ (b : Bool). Contains (cond b [] (range_with_len (k / 4 * 4 - 4) 4)) w) t c in
      let l : none.0 < 0 = none.1 in
      absurd (omega (arith, l))
  | inr le ↦
      let t : nat_lt k 4 ≡ false = grind (arith, nat_tests, le) in
      let some : Contains (range_with_len (k / 4 * 4 - 4) 4) w = subst (λ (b : Bool). Contains (cond b [] (range_with_len (k / 4 * 4 - 4) 4)) w) t c in
      let l : some.0 < 4 = some.1 in
      let is : get_or (range_with_len (k / 4 * 4 - 4) 4) some.0 w ≡ w = some.2 in
      let at : get_or (range_with_len (k / 4 * 4 - 4) 4) some.0 w ≡ k / 4 * 4 - 4 + some.0 = get_or-range_with_len (k / 4 * 4 - 4) 4 some.0 w l in
      let e : w ≡ k / 4 * 4 - 4 + some.0 = sym is ∙ at in
      omega (arith, e, l, le)
]

after_less : (n u w : ℕ) → Contains (plan_of (plan_of_drill n) u).after w → w < u
after_less n u w c = elim (cases_lt u (units_of n)) [
  | inl lt ↦ in_group u w (subst (λ (p : UnitPlan). Contains p.after w) (plan_unit n u lt) c)
  | inr le ↦
      let none : Contains {X = ℕ} [] w = subst (λ (p : UnitPlan). Contains p.after w) (nth_past n 0 (units_of n) u le) c in
      let l : none.0 < 0 = none.1 in
      absurd (omega (arith, l))
]

stands_less : (n w u : ℕ) → StandsBefore (plan_of_drill n) w u → w < u
stands_less n w _ (next_to u c) = after_less n u w c
stands_less n w _ (before u x c s) =
    let a = after_less n u x c in
    let b = stands_less n w x s in
    omega (arith, a, b)

no_circle : (n k : ℕ) → StandsBefore (accepting.units_of (drafts n)) k k → ⊥
no_circle n k s =
    let less : k < k = stands_less n k k (subst (λ (P : List UnitPlan). StandsBefore P k k) (sym (plan_is n)) s) in
    absurd (omega (arith, less))

-- ------ the whole
ordered : (n : ℕ) → IsOrdered (drafts n)
ordered n = record {
  known = record {
    addressed = record {
      named = record { few = not_many n; names = row HasNames 2 11 all_names (n % 11) (omega arith) n };
      addresses = row HasAddresses 2 11 all_addresses (n % 11) (omega arith) n;
    };
    known = row KnowsAll 2 11 all_known (n % 11) (omega arith) n;
  };
  no_cycle = no_circle n;
}

pub accepted : (n : ℕ) → IsAccepted (plan_of_drill n)
accepted n = subst IsAccepted (sym (plan_is n)) (accepted_plan (drafts n) (drafts_are n 0 (units_of n) (omega arith)) (ordered n) (none_wide n))

pub plan_answer : (n : ℕ) → IsPlanAnswer (drafts n) (Ok (plan_of_drill n))
plan_answer n = (ordered n, none_wide n, plan_is n, accepted n)

bytes_to : (n a m : ℕ) → total_of (map (unit_plan n) (range_with_len a m)) ≡ m * bytes_of n
bytes_to n a zero = let e : 0 * bytes_of n ≡ 0 = grind arith in sym e
bytes_to n a (suc m) =
    let one = image_length n a in
    let rest = bytes_to n (a + 1) m in
    let e : total_of (map (unit_plan n) (range_with_len a (suc m))) ≡ length (image_of n a) + 0 + total_of (map (unit_plan n) (range_with_len (a + 1) m)) = refl in
    let f : suc m * bytes_of n ≡ bytes_of n + m * bytes_of n = grind arith in
    omega (arith, one, rest, e, f)

pub bytes_are : (n : ℕ) → total_of (plan_of_drill n) ≡ all_bytes_of n
bytes_are n = bytes_to n 0 (units_of n)
