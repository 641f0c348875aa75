-- Drafts that pass each test make an accepted plan.
use Rattle.std.proofs.Common.{◌≡◌, ◌⊎◌, inl, inr, ℕ, zero, suc, ◌+◌, ◌<◌, ◌≤◌, ◌==◌, Bool, true, false, ◌||◌, List, [], ◌∷◌, length, map, Option, Some, None, if◌then◌else◌, nat_lt, nat_le, bytes_eq, refl, sym, ◌∙◌, ap, subst, arith}
use Rattle.std.specs.List.{list_any}
use Rattle.std.proofs.lemmas.Bool.{ltb-false, leb-false, eq-eqb}
use Rattle.std.proofs.lemmas.List.{length-map}
use Rattle.std.proofs.lemmas.Slice.Eq.{bytes_eq-Decides}
use Rattle.flash_base.specs.Lists.{Each}
use Rattle.flash_base.specs.Numbers.{pow256}
use Rattle.flash_base.specs.declared.unit.Width.{Width}
use Rattle.flash_plan.specs.declared.fault.What.{What}
use Rattle.flash_plan.specs.declared.fault.What.TheVariants.{Units, Segments, Bytes, Total, Idents}
use Rattle.flash_plan.specs.declared.unit.Draft.{Draft}
use Rattle.flash_plan.specs.declared.unit.Segment.{Segment}
use Rattle.flash_plan.specs.declared.unit.UnitPlan.{UnitPlan}
use Rattle.flash_plan.specs.declared.unit.Wanted.{Wanted}
use Rattle.flash_plan.specs.Accepting.{draft_of, first_from, first_task, is_some_from, has_same_name, has_same_address, has_wide, is_wide, is_split, is_large, is_long_value, has_long_value, has_many_idents, total_of_drafts, too_many, numbers_from, after_of, unit_of, units_of, IsAsked, IsDraft, IsOrdered}
use Rattle.flash_plan.specs.Plan.{plan_of, count_of, total_of, size_of, Ascend, IsAccepted, IsAcceptedUnit, IsFit, IsWanted}

-- ------ tests that fail
neither : (a b : Bool) → (a || b) ≡ false → (a ≡ false) × (b ≡ false)
neither false b h = (refl, h)
neither true b h = absurd (wrong h)
  where
    wrong : true ≡ false → ⊥
    wrong e = cc

none_of : {A : Type 0} (b : Bool) (x : A) (r : Option A) → (if b then Some x else r) ≡ None → (b ≡ false) × (r ≡ None)
none_of false x r h = (refl, h)
none_of {A} true x r h = absurd (wrong h)
  where
    wrong : Some x ≡ None → ⊥
    wrong e = cc

pub none_any : {A : Type 0} (test : A → Bool) (xs : List A) → list_any test xs ≡ false → Each (λ x. test x ≡ false) xs
none_any test [] h = tt
none_any test (x ∷ xs) h = let n : (test x ≡ false) × (list_any test xs ≡ false) = neither (test x) (list_any test xs) h in (n.0, none_any test xs n.1)

-- none of so many numbers passes a test
pub none_first : (test : ℕ → Bool) (n k m : ℕ) → first_from n k test ≡ None → n ≤ m → m < n + k → test m ≡ false
none_first test n zero m h le lt = absurd (omega (arith, le, lt))
none_first test n (suc k) m h le lt =
    let here : (test n ≡ false) × (first_from (n + 1) k test ≡ None) = none_of (test n) n (first_from (n + 1) k test) h in
    elim (at_or_on n m le) [ inl e ↦ subst (λ x. test x ≡ false) e here.0 | inr more ↦ none_first test (n + 1) k m here.1 more (omega (arith, lt)) ]
  where
    at_or_on : (a b : ℕ) → a ≤ b → (a ≡ b) ⊎ (a + 1 ≤ b)
    at_or_on a b le = grind arith

none_some : (test : ℕ → Bool) (n k m : ℕ) → is_some_from n k test ≡ false → n ≤ m → m < n + k → test m ≡ false
none_some test n zero m h le lt = absurd (omega (arith, le, lt))
none_some test n (suc k) m h le lt =
    let here : (test n ≡ false) × (is_some_from (n + 1) k test ≡ false) = neither (test n) (is_some_from (n + 1) k test) h in
    elim (at_or_on n m le) [ inl e ↦ subst (λ x. test x ≡ false) e here.0 | inr more ↦ none_some test (n + 1) k m here.1 more (omega (arith, lt)) ]
  where
    at_or_on : (a b : ℕ) → a ≤ b → (a ≡ b) ⊎ (a + 1 ≤ b)
    at_or_on a b le = grind arith

-- ------ limits
pub record IsFew (ds : List Draft) : Type 0 where
  pub few : length ds ≤ 64
  pub segments : Each (λ d. is_split d ≡ false) ds
  pub bytes : Each (λ d. is_large d ≡ false) ds
  pub total : total_of_drafts ds ≤ 67108864
  pub idents : Each (λ d. has_many_idents d ≡ false) ds

pub few_is : (ds : List Draft) → too_many ds ≡ None → IsFew ds
few_is ds h =
    let r5 : Option What = if list_any has_many_idents ds then Some Idents else None in
    let r4 : Option What = if nat_lt 67108864 (total_of_drafts ds) then Some Total else r5 in
    let r3 : Option What = if list_any is_large ds then Some Bytes else r4 in
    let r2 : Option What = if list_any is_split ds then Some Segments else r3 in
    let h1 : (nat_lt 64 (length ds) ≡ false) × (r2 ≡ None) = none_of (nat_lt 64 (length ds)) Units r2 h in
    let h2 : (list_any is_split ds ≡ false) × (r3 ≡ None) = none_of (list_any is_split ds) Segments r3 h1.1 in
    let h3 : (list_any is_large ds ≡ false) × (r4 ≡ None) = none_of (list_any is_large ds) Bytes r4 h2.1 in
    let h4 : (nat_lt 67108864 (total_of_drafts ds) ≡ false) × (r5 ≡ None) = none_of (nat_lt 67108864 (total_of_drafts ds)) Total r5 h3.1 in
    let h5 : (list_any has_many_idents ds ≡ false) × (◌≡◌ {A = Option What} None None) = none_of (list_any has_many_idents ds) Idents None h4.1 in
    record {
      few = ltb-false 64 (length ds) h1.0;
      segments = none_any is_split ds h2.0;
      bytes = none_any is_large ds h3.0;
      total = ltb-false 67108864 (total_of_drafts ds) h4.0;
      idents = none_any has_many_idents ds h5.0;
    }

-- ------ one unit
each_draft : (P : Draft → Type 0) (ds : List Draft) (n : ℕ) → Each P ds → n < length ds → P (draft_of ds n)
each_draft P [] n h lt = absurd (omega (arith, lt))
each_draft P (d ∷ ds) zero h lt = h.0
each_draft P (d ∷ ds) (suc n) h lt = each_draft P ds n h.1 (omega (arith, lt))

pub plan_of-map : (f : Draft → UnitPlan) (ds : List Draft) (n : ℕ) → n < length ds → plan_of (map f ds) n ≡ f (draft_of ds n)
plan_of-map f [] n lt = absurd (omega (arith, lt))
plan_of-map f (d ∷ ds) zero lt = refl
plan_of-map f (d ∷ ds) (suc n) lt = plan_of-map f ds n (omega (arith, lt))

wanted : (ws : List Wanted) → Each IsAsked ws → Each (λ w. has_long_value w ≡ false) ws → Each IsWanted ws
wanted [] a l = tt
wanted (w ∷ ws) a l =
    let n : (nat_lt 32 (length w.values) ≡ false) × (list_any is_long_value w.values ≡ false) = neither (nat_lt 32 (length w.values)) (list_any is_long_value w.values) l.0 in
    let one : IsWanted w = record { did = a.0.did; some = a.0.some; few = ltb-false 32 (length w.values) n.0; values = values w.values a.0.filled (none_any is_long_value w.values n.1) } in
    (one, wanted ws a.1 l.1)
  where
    values : (vs : List (List ℕ)) → Each (λ v. 1 ≤ length v) vs → Each (λ v. is_long_value v ≡ false) vs → Each (λ v. (1 ≤ length v) × (length v ≤ 64)) vs
    values [] a l = tt
    values (v ∷ vs) a l = ((a.0, ltb-false 64 (length v) l.0), values vs a.1 l.1)

fits : (w : Width) (ss : List Segment) → Each (λ s. 1 ≤ length s.body) ss → Each (λ s. is_wide w s ≡ false) ss → Each (IsFit w) ss
fits w [] a l = tt
fits w (s ∷ ss) a l =
    let n : (nat_le (pow256 w.size) (length s.body) ≡ false) × (nat_lt (pow256 w.at) (s.at + length s.body) ≡ false) = neither (nat_le (pow256 w.size) (length s.body)) (nat_lt (pow256 w.at) (s.at + length s.body)) l.0 in
    let one : IsFit w s = record { some = a.0; size = leb-false (pow256 w.size) (length s.body) n.0; ends = ltb-false (pow256 w.at) (s.at + length s.body) n.1 } in
    (one, fits w ss a.1 l.1)

-- ------ numbers
each_weaker : (a b : ℕ) (xs : List ℕ) → a ≤ b → Each (λ y. b ≤ y) xs → Each (λ y. a ≤ y) xs
each_weaker a b [] le h = tt
each_weaker a b (x ∷ xs) le h = (omega (arith, le, h.0), each_weaker a b xs le h.1)

each_above : (a : ℕ) (xs : List ℕ) → Each (λ y. a + 1 ≤ y) xs → Each (λ y. a < y) xs
each_above a [] h = tt
each_above a (x ∷ xs) h = (omega (arith, h.0), each_above a xs h.1)

from_step : (n : ℕ) (rest : List ℕ) (b : Bool) → Each (λ y. n + 1 ≤ y) rest → Each (λ y. n ≤ y) (if b then n ∷ rest else rest)
from_step n rest true h = (omega arith, each_weaker n (n + 1) rest (omega arith) h)
from_step n rest false h = each_weaker n (n + 1) rest (omega arith) h

from_number : (n k : ℕ) (test : ℕ → Bool) → Each (λ y. n ≤ y) (numbers_from n k test)
from_number n zero test = tt
from_number n (suc k) test = from_step n (numbers_from (n + 1) k test) (test n) (from_number (n + 1) k test)

ascend_step : (n : ℕ) (rest : List ℕ) (b : Bool) → Each (λ y. n + 1 ≤ y) rest → Ascend rest → Ascend (if b then n ∷ rest else rest)
ascend_step n rest true h a = (each_above n rest h, a)
ascend_step n rest false h a = a

ascending : (n k : ℕ) (test : ℕ → Bool) → Ascend (numbers_from n k test)
ascending n zero test = tt
ascending n (suc k) test = ascend_step n (numbers_from (n + 1) k test) (test n) (from_number (n + 1) k test) (ascending (n + 1) k test)

below_step : (n m : ℕ) (rest : List ℕ) (b : Bool) → n < m → Each (λ y. y < m) rest → Each (λ y. y < m) (if b then n ∷ rest else rest)
below_step n m rest true lt h = (lt, h)
below_step n m rest false lt h = h

below : (n k m : ℕ) (test : ℕ → Bool) → n + k ≤ m → Each (λ y. y < m) (numbers_from n k test)
below n zero m test le = tt
below n (suc k) m test le = below_step n m (numbers_from (n + 1) k test) (test n) (omega (arith, le)) (below (n + 1) k m test (omega (arith, le)))

few_step : (n k : ℕ) (rest : List ℕ) (b : Bool) → length rest ≤ k → length (if b then n ∷ rest else rest) ≤ suc k
few_step n k rest true le = omega (arith, le)
few_step n k rest false le = omega (arith, le)

few_numbers : (n k : ℕ) (test : ℕ → Bool) → length (numbers_from n k test) ≤ k
few_numbers n zero test = omega arith
few_numbers n (suc k) test = few_step n k (numbers_from (n + 1) k test) (test n) (few_numbers (n + 1) k test)

accepted_unit : (ds : List Draft) (d : Draft) → length ds ≤ 64 → IsDraft d → is_split d ≡ false → is_large d ≡ false → has_many_idents d ≡ false → Each (λ s. is_wide d.width s ≡ false) d.segments
    → IsAcceptedUnit (unit_of ds d)
accepted_unit ds d few h split large idents wide =
    let i : (nat_lt 32 (length d.idents) ≡ false) × (list_any has_long_value d.idents ≡ false) = neither (nat_lt 32 (length d.idents)) (list_any has_long_value d.idents) idents in
    let most : length (after_of ds d) ≤ length ds = few_numbers 0 (length ds) (λ w. list_any (λ name. bytes_eq name (draft_of ds w).name) d.after) in
    record {
      name = h.name;
      address = h.address;
      width = h.width;
      check_range = h.check_range;
      check = h.check;
      check_too = h.check_too;
      key = h.key;
      few_idents = ltb-false 32 (length d.idents) i.0;
      idents = wanted d.idents h.idents (none_any has_long_value d.idents i.1);
      some = h.some;
      few = ltb-false 256 (length d.segments) split;
      fit = fits d.width d.segments h.filled wide;
      apart = h.apart;
      bytes = ltb-false 16777216 (size_of d.segments) large;
      few_after = omega (arith, most, few);
      ascend = ascending 0 (length ds) (λ w. list_any (λ name. bytes_eq name (draft_of ds w).name) d.after);
    }

-- ------ all units
total_is : (es ds : List Draft) → total_of (map (unit_of es) ds) ≡ total_of_drafts ds
total_is es [] = refl
total_is es (d ∷ ds) = ap (λ n. size_of d.segments + n) (total_is es ds)

less_or : (a b : ℕ) → (a < b) ⊎ (b ≤ a)
less_or a b = grind arith

distinct : (l : ℕ) (Same : ℕ → ℕ → Type 0) → ((m n : ℕ) → m < n → n < l → Same m n → ⊥) → ((m n : ℕ) → Same m n → Same n m) → (m n : ℕ) → m < l → n < l → Same m n → m ≡ n
distinct l Same apart back m n lm ln s = elim (less_or m n) [
  | inl lt ↦ absurd (apart m n lt ln s)
  | inr ge ↦ elim (less_or n m) [ inl gt ↦ absurd (apart n m gt lm (back m n s)) | inr le ↦ (omega (arith, le, ge)) ]
]

not_both : (b : Bool) → b ≡ true → b ≡ false → ⊥
not_both b y n = cc

other_name : (ds : List Draft) → first_task ds (has_same_name ds) ≡ None → (m n : ℕ) → m < n → n < length ds → (draft_of ds m).name ≡ (draft_of ds n).name → ⊥
other_name ds h m n lt ln e =
    let t : has_same_name ds n ≡ false = none_first (has_same_name ds) 0 (length ds) n h (omega arith) (omega (arith, ln)) in
    let no_name : bytes_eq (draft_of ds m).name (draft_of ds n).name ≡ false = none_some (λ m. bytes_eq (draft_of ds m).name (draft_of ds n).name) 0 n m t (omega arith) (omega (arith, lt)) in
    not_both (bytes_eq (draft_of ds m).name (draft_of ds n).name) ((bytes_eq-Decides (draft_of ds m).name (draft_of ds n).name).1 e) no_name

other_address : (ds : List Draft) → first_task ds (has_same_address ds) ≡ None → (m n : ℕ) → m < n → n < length ds → (draft_of ds m).address ≡ (draft_of ds n).address → ⊥
other_address ds h m n lt ln e =
    let t : has_same_address ds n ≡ false = none_first (has_same_address ds) 0 (length ds) n h (omega arith) (omega (arith, ln)) in
    let none_same : ((draft_of ds m).address == (draft_of ds n).address) ≡ false = none_some (λ m. (draft_of ds m).address == (draft_of ds n).address) 0 n m t (omega arith) (omega (arith, lt)) in
    not_both ((draft_of ds m).address == (draft_of ds n).address) (eq-eqb (draft_of ds m).address (draft_of ds n).address e) none_same

-- each unit waits for units of the plan
pub after_within : (ds : List Draft) (n : ℕ) → n < count_of (units_of ds) → Each (λ w. w < count_of (units_of ds)) (plan_of (units_of ds) n).after
after_within ds n lt =
    let count : length (units_of ds) ≡ length ds = length-map ds (unit_of ds) in
    let within : n < length ds = omega (arith, lt, count) in
    let is : plan_of (units_of ds) n ≡ unit_of ds (draft_of ds n) = plan_of-map (unit_of ds) ds n within in
    let all : Each (λ w. w < count_of (units_of ds)) (after_of ds (draft_of ds n)) = below 0 (length ds) (count_of (units_of ds)) (λ w. list_any (λ name. bytes_eq name (draft_of ds w).name) (draft_of ds n).after) (omega (arith, count)) in
    subst (λ (u : UnitPlan). Each (λ w. w < count_of (units_of ds)) u.after) (sym is) all

pub accepted_plan : (ds : List Draft) → Each IsDraft ds → IsOrdered ds → first_task ds (has_wide ds) ≡ None → IsAccepted (units_of ds)
accepted_plan ds h o wide =
    let f : IsFew ds = few_is ds o.known.addressed.named.few in
    let count : length (units_of ds) ≡ length ds = length-map ds (unit_of ds) in
    record {
      few = omega (arith, count, f.few);
      total = omega (arith, total_is ds ds, f.total);
      each = λ n lt.
          let within : n < length ds = omega (arith, lt, count) in
          let d : Draft = draft_of ds n in
          let narrow : has_wide ds n ≡ false = none_first (has_wide ds) 0 (length ds) n wide (omega arith) (omega (arith, within)) in
          subst IsAcceptedUnit (sym (plan_of-map (unit_of ds) ds n within))
          (accepted_unit ds d f.few (each_draft IsDraft ds n h within) (each_draft (λ d. is_split d ≡ false) ds n f.segments within) (each_draft (λ d. is_large d ≡ false) ds n f.bytes within)
          (each_draft (λ d. has_many_idents d ≡ false) ds n f.idents within) (none_any (is_wide d.width) d.segments narrow));
      names = λ m n lm ln e.
          let wm : m < length ds = omega (arith, lm, count) in
          let wn : n < length ds = omega (arith, ln, count) in
          distinct (length ds) (λ a b. (draft_of ds a).name ≡ (draft_of ds b).name) (other_name ds o.known.addressed.named.names) (λ a b s. sym s) m n wm wn
          (sym (ap (λ (u : UnitPlan). u.name) (plan_of-map (unit_of ds) ds m wm)) ∙ e ∙ ap (λ (u : UnitPlan). u.name) (plan_of-map (unit_of ds) ds n wn));
      addresses = λ m n lm ln e.
          let wm : m < length ds = omega (arith, lm, count) in
          let wn : n < length ds = omega (arith, ln, count) in
          distinct (length ds) (λ a b. (draft_of ds a).address ≡ (draft_of ds b).address) (other_address ds o.known.addressed.addresses) (λ a b s. sym s) m n wm wn
          (sym (ap (λ (u : UnitPlan). u.address) (plan_of-map (unit_of ds) ds m wm)) ∙ e ∙ ap (λ (u : UnitPlan). u.address) (plan_of-map (unit_of ds) ds n wn));
      after = after_within ds;
      no_cycle = o.no_cycle;
    }
