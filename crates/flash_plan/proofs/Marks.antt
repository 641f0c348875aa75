-- The units that marks come to are those that stand before a unit.
use Rattle.std.proofs.Common.{◌≡◌, ◌⊎◌, inl, inr, ℕ, zero, suc, ◌+◌, ◌-◌, ◌<◌, ◌≤◌, Bool, true, false, ◌||◌, ◌==◌, List, [], ◌∷◌, length, get_or, slice_index_or, set, replicate, Option, Some, None, if◌then◌else◌, refl, sym, ◌∙◌, ap, subst, arith}
use Rattle.std.specs.Prelude.{Contains}
use Rattle.std.proofs.lemmas.Bool.{eqb-true, eq-eqb}
use Rattle.std.proofs.lemmas.Bool.Decides.{eqb_tells}
use Rattle.std.proofs.lemmas.List.{get_or-set_other, get_or-replicate, get_or_past, length-replicate}
use Rattle.flash_base.specs.Lists.{Each}
use Rattle.flash_plan.specs.declared.unit.UnitPlan.{UnitPlan}
use Rattle.flash_plan.specs.Plan.{plan_of, count_of, StandsBefore, next_to, before}
use Rattle.flash_plan.proofs.Units.{nth_plan-read}
use Rattle.flash_plan.specs.Cycles.{is_marked, unmarked, first_open, is_reached, open_of, or_else, open_from, next_open, AreWithin, IsCycleTest}

none_some : (x : ℕ) → None ≡ Some x → ⊥
none_some x h = cc

some_none : (x : ℕ) → Some x ≡ None → ⊥
some_none x h = cc

some_same : (x y : ℕ) → Some x ≡ Some y → x ≡ y
some_same x y h = cc

less_or : (a b : ℕ) → (a < b) ⊎ (b ≤ a)
less_or a b = grind arith

-- ------ a number among others
here : (w : ℕ) (ws : List ℕ) → Contains (w ∷ ws) w
here w ws = (0, omega arith, refl)

there : (v w : ℕ) (ws : List ℕ) → Contains ws w → Contains (v ∷ ws) w
there v w ws c = (suc c.0, omega (arith, c.1), c.2)

split : (v w : ℕ) (ws : List ℕ) (k : ℕ) → k < length (v ∷ ws) → slice_index_or (v ∷ ws) k w ≡ w → (w ≡ v) ⊎ Contains ws w
split v w ws zero lt e = inl (sym e)
split v w ws (suc k) lt e = inr (k, omega (arith, lt), e)

pub each_of : (P : ℕ → Type 0) (ws : List ℕ) (w : ℕ) → Each P ws → Contains ws w → P w
each_of P [] w h c = absurd (omega (arith, c.1))
each_of P (v ∷ ws) w h c = elim (split v w ws c.0 c.1 c.2) [ inl e ↦ subst P (sym e) h.0 | inr d ↦ each_of P ws w h.1 d ]

-- ------ the first of some numbers that has no mark
open_step : (ms : List Bool) (v w : ℕ) (ws : List ℕ) (b : Bool) → is_marked ms v ≡ b → (if b then first_open ms ws else Some v) ≡ Some w
    → (first_open ms ws ≡ Some w → Contains ws w × (is_marked ms w ≡ false)) → Contains (v ∷ ws) w × (is_marked ms w ≡ false)
open_step ms v w ws true e h later = let i : Contains ws w × (is_marked ms w ≡ false) = later h in (there v w ws i.0, i.1)
open_step ms v w ws false e h later =
    let same : v ≡ w = some_same v w h in
    (subst (Contains (v ∷ ws)) same (here v ws), subst (λ x. is_marked ms x ≡ false) same e)

open_is : (ms : List Bool) (ws : List ℕ) (w : ℕ) → first_open ms ws ≡ Some w → Contains ws w × (is_marked ms w ≡ false)
open_is ms [] w h = absurd (none_some w h)
open_is ms (v ∷ ws) w h = open_step ms v w ws (is_marked ms v) refl h (λ g. open_is ms ws w g)

none_step : (ms : List Bool) (v w : ℕ) (ws : List ℕ) (b : Bool) → is_marked ms v ≡ b → (if b then first_open ms ws else Some v) ≡ None → (w ≡ v) ⊎ Contains ws w
    → (first_open ms ws ≡ None → Contains ws w → is_marked ms w ≡ true) → is_marked ms w ≡ true
none_step ms v w ws false e h c later = absurd (some_none v h)
none_step ms v w ws true e h (inl same) later = ap (is_marked ms) same ∙ e
none_step ms v w ws true e h (inr d) later = later h d

open_none : (ms : List Bool) (ws : List ℕ) (w : ℕ) → first_open ms ws ≡ None → Contains ws w → is_marked ms w ≡ true
open_none ms [] w h c = absurd (omega (arith, c.1))
open_none ms (v ∷ ws) w h c = none_step ms v w ws (is_marked ms v) refl h (split v w ws c.0 c.1 c.2) (λ g d. open_none ms ws w g d)

-- ------ a unit to be marked next, and why
record Found (P : List UnitPlan) (n : ℕ) (ms : List Bool) (w : ℕ) : Type 0 where
  pub by : ℕ
  pub reached : is_reached n ms by ≡ true
  pub waits : Contains (plan_of P by).after w
  pub fresh : is_marked ms w ≡ false

of_step : (P : List UnitPlan) (n : ℕ) (ms : List Bool) (u w : ℕ) (b : Bool) → is_reached n ms u ≡ b → (if b then first_open ms (plan_of P u).after else None) ≡ Some w → Found P n ms w
of_step P n ms u w false e h = absurd (none_some w h)
of_step P n ms u w true e h = let i : Contains (plan_of P u).after w × (is_marked ms w ≡ false) = open_is ms (plan_of P u).after w h in record { by = u; reached = e; waits = i.0; fresh = i.1 }

of_none : (P : List UnitPlan) (n : ℕ) (ms : List Bool) (u w : ℕ) → open_of P n ms u ≡ None → is_reached n ms u ≡ true → Contains (plan_of P u).after w → is_marked ms w ≡ true
of_none P n ms u w h r c =
    let e : open_of P n ms u ≡ first_open ms (plan_of P u).after = ap (λ b. if b then first_open ms (plan_of P u).after else None) r in
    open_none ms (plan_of P u).after w (sym e ∙ h) c

from_step : (P : List UnitPlan) (n : ℕ) (ms : List Bool) (u k w : ℕ) (o : Option ℕ) → open_of P n ms u ≡ o → or_else o (open_from P n ms (u + 1) k) ≡ Some w
    → (open_from P n ms (u + 1) k ≡ Some w → Found P n ms w) → Found P n ms w
from_step P n ms u k w None e h later = later h
from_step P n ms u k w (Some x) e h later = of_step P n ms u w (is_reached n ms u) refl (e ∙ h)

from_is : (P : List UnitPlan) (n : ℕ) (ms : List Bool) (u k w : ℕ) → open_from P n ms u k ≡ Some w → Found P n ms w
from_is P n ms u zero w h = absurd (none_some w h)
from_is P n ms u (suc k) w h = from_step P n ms u k w (open_of P n ms u) refl h (λ g. from_is P n ms (u + 1) k w g)

at_or_on : (a b : ℕ) → a ≤ b → (a ≡ b) ⊎ (a + 1 ≤ b)
at_or_on a b le = grind arith

none_from : (P : List UnitPlan) (n : ℕ) (ms : List Bool) (u k v w : ℕ) (o : Option ℕ) → open_of P n ms u ≡ o → or_else o (open_from P n ms (u + 1) k) ≡ None → (u ≡ v) ⊎ (u + 1 ≤ v)
    → is_reached n ms v ≡ true → Contains (plan_of P v).after w → (open_from P n ms (u + 1) k ≡ None → u + 1 ≤ v → is_marked ms w ≡ true) → is_marked ms w ≡ true
none_from P n ms u k v w (Some x) e h c r i later = absurd (some_none x h)
none_from P n ms u k v w None e h (inl same) r i later = of_none P n ms v w (subst (λ x. open_of P n ms x ≡ None) same e) r i
none_from P n ms u k v w None e h (inr more) r i later = later h more

from_none : (P : List UnitPlan) (n : ℕ) (ms : List Bool) (u k v w : ℕ) → open_from P n ms u k ≡ None → u ≤ v → v < u + k → is_reached n ms v ≡ true
    → Contains (plan_of P v).after w → is_marked ms w ≡ true
from_none P n ms u zero v w h le lt r i = absurd (omega (arith, le, lt))
from_none P n ms u (suc k) v w h le lt r i =
    none_from P n ms u k v w (open_of P n ms u) refl h (at_or_on u v le) r i (λ g more. from_none P n ms (u + 1) k v w g more (omega (arith, lt)) r i)

-- ------ the search for one, step by step
pub open_is_of : (P : List UnitPlan) (n : ℕ) (ms : List Bool) (u : ℕ) (unit : UnitPlan) (ws : List ℕ) (r : Bool) (o : Option ℕ) → u < length P → unit ≡ get_or P u unit → ws ≡ unit.after
    → r ≡ is_reached n ms u → r ≡ true → o ≡ first_open ms ws → o ≡ open_of P n ms u
open_is_of P n ms u unit ws r o lt is same er yes_r eo =
    let read : plan_of P u ≡ unit = nth_plan-read P u unit lt is in
    let opens : open_of P n ms u ≡ first_open ms (plan_of P u).after = ap (λ b. if b then first_open ms (plan_of P u).after else None) (sym er ∙ yes_r) in
    eo ∙ ap (first_open ms) same ∙ ap (λ (x : UnitPlan). first_open ms x.after) (sym read) ∙ sym opens

pub open_on : (all : Option ℕ) (P : List UnitPlan) (n : ℕ) (ms : List Bool) (u : ℕ) (o : Option ℕ) → all ≡ open_from P n ms u (length P - u) → u < length P → o ≡ open_of P n ms u → o ≡ None
    → all ≡ open_from P n ms (u + 1) (length P - (u + 1))
open_on all P n ms u o h lt eo is =
    let left : length P - u ≡ suc (length P - (u + 1)) = omega (arith, lt) in
    h ∙ ap (open_from P n ms u) left ∙ ap (λ x. or_else x (open_from P n ms (u + 1) (length P - (u + 1)))) (sym eo ∙ is)

-- ------ nothing is left to be marked
none_past : (P : List UnitPlan) (v w : ℕ) → length P ≤ v → Contains (plan_of P v).after w → ⊥
none_past [] v w le c = omega (arith, c.1)
none_past (u ∷ us) zero w le c = omega (arith, le)
none_past (u ∷ us) (suc v) w le c = none_past us v w (omega (arith, le)) c

closed : (P : List UnitPlan) (n : ℕ) (ms : List Bool) (v w : ℕ) → next_open P n ms ≡ None → is_reached n ms v ≡ true → Contains (plan_of P v).after w → is_marked ms w ≡ true
closed P n ms v w h r c = elim (less_or v (length P)) [ inl lt ↦ from_none P n ms 0 (length P) v w h (omega arith) (omega (arith, lt)) r c | inr ge ↦ absurd (none_past P v w ge c) ]

or_true : (a : Bool) → (a || true) ≡ true
or_true true = refl
or_true false = refl

reached_mark : (n : ℕ) (ms : List Bool) (u : ℕ) → is_marked ms u ≡ true → is_reached n ms u ≡ true
reached_mark n ms u h = ap (λ b. u == n || b) h ∙ or_true (u == n)

reached_self : (n : ℕ) (ms : List Bool) → is_reached n ms n ≡ true
reached_self n ms = ap (λ b. b || is_marked ms n) (eq-eqb n n refl)

complete : (P : List UnitPlan) (n : ℕ) (ms : List Bool) (w u : ℕ) → next_open P n ms ≡ None → StandsBefore P w u → is_reached n ms u ≡ true → is_marked ms w ≡ true
complete P n ms w u h (next_to v c) r = closed P n ms v w h r c
complete P n ms w u h (before v x c s) r = complete P n ms w x h s (reached_mark n ms x (closed P n ms v x h r c))

-- ------ each marked unit stands before unit n
abbrev pub AreBefore : List UnitPlan → ℕ → List Bool → Type 0
AreBefore P n ms = (w : ℕ) → is_marked ms w ≡ true → StandsBefore P w n

stands_on : (P : List UnitPlan) (w v u : ℕ) → StandsBefore P w v → StandsBefore P v u → StandsBefore P w u
stands_on P w v u a (next_to x c) = before x v c a
stands_on P w v u a (before x y c s) = before x y c (stands_on P w v y a s)

by_reached : (P : List UnitPlan) (n : ℕ) (ms : List Bool) (v w : ℕ) (b : Bool) → (v == n) ≡ b → (b || is_marked ms v) ≡ true → Contains (plan_of P v).after w → AreBefore P n ms
    → StandsBefore P w n
by_reached P n ms v w true e h c all = subst (StandsBefore P w) (eqb-true v n e) (next_to v c)
by_reached P n ms v w false e h c all = stands_on P w v n (next_to v c) (all v h)

found_stands : (P : List UnitPlan) (n : ℕ) (ms : List Bool) (w : ℕ) → Found P n ms w → AreBefore P n ms → StandsBefore P w n
found_stands P n ms w f all = by_reached P n ms f.by w (f.by == n) refl f.reached f.waits all

pub marked_more : (P : List UnitPlan) (n : ℕ) (ms new : List Bool) (w : ℕ) → next_open P n ms ≡ Some w → new ≡ set ms w true → AreBefore P n ms → AreBefore P n new
marked_more P n ms new w h e all x m =
    let f = from_is P n ms 0 (length P) w h in
    let m2 : get_or (set ms w true) x false ≡ true = sym (ap (λ l. get_or l x false) e) ∙ m in
    elim (eqb_tells x w) [
      | inl yes_is ↦ subst (λ y. StandsBefore P y n) (sym yes_is.1) (found_stands P n ms w f all)
      | inr not_is ↦ all x (sym (get_or-set_other ms w x true false not_is.1) ∙ m2)
    ]

pub none_marked : (P : List UnitPlan) (n k : ℕ) → AreBefore P n (replicate k false)
none_marked P n k w h = absurd (elim (less_or w k) [ inl lt ↦ true_false (sym h ∙ get_or-replicate k w false false lt) | inr ge ↦ true_false (sym h ∙ get_or_past (replicate k false) w false (omega (arith, length-replicate k false, ge))) ])
  where
    true_false : true ≡ false → ⊥
    true_false e = cc

-- ------ a mark fewer is missing
fewer : (ms : List Bool) (w : ℕ) → w < length ms → get_or ms w false ≡ false → unmarked (set ms w true) < unmarked ms
fewer [] w lt h = absurd (omega (arith, lt))
fewer (true ∷ ms) zero lt h = absurd (wrong h)
  where
    wrong : true ≡ false → ⊥
    wrong e = cc
fewer (false ∷ ms) zero lt h = omega arith
fewer (true ∷ ms) (suc w) lt h = fewer ms w (omega (arith, lt)) h
fewer (false ∷ ms) (suc w) lt h = omega (arith, fewer ms w (omega (arith, lt)) h)

-- the unit to be marked is a unit of the plan
within_step : (P : List UnitPlan) (v w : ℕ) → AreWithin P → Contains (plan_of P v).after w → w < count_of P
within_step P v w h c = elim (less_or v (length P)) [ inl lt ↦ each_of (λ x. x < count_of P) (plan_of P v).after w (h v lt) c | inr ge ↦ absurd (none_past P v w ge c) ]

pub open_within : (P : List UnitPlan) (n : ℕ) (ms : List Bool) (w : ℕ) → AreWithin P → next_open P n ms ≡ Some w → w < length P
open_within P n ms w a h = let f = from_is P n ms 0 (length P) w h in within_step P f.by w a f.waits

pub open_fewer : (P : List UnitPlan) (n : ℕ) (ms new : List Bool) (w : ℕ) → AreWithin P → length P ≤ length ms → next_open P n ms ≡ Some w → new ≡ set ms w true → unmarked new < unmarked ms
open_fewer P n ms new w a le h e =
    let f = from_is P n ms 0 (length P) w h in
    let within : w < length P = open_within P n ms w a h in
    let less : unmarked (set ms w true) < unmarked ms = fewer ms w (omega (arith, within, le)) f.fresh in
    omega (arith, less, ap unmarked e)

-- ------ the test
pub cycle_test : (P : List UnitPlan) (n : ℕ) (ms : List Bool) (r : Bool) → AreBefore P n ms → next_open P n ms ≡ None → r ≡ is_marked ms n → IsCycleTest P n r
cycle_test P n ms true all h e = all n (sym e)
cycle_test P n ms false all h e = λ s. wrong (e ∙ complete P n ms n n h s (reached_self n ms))
  where
    wrong : false ≡ true → ⊥
    wrong x = cc

-- a unit that stands before itself is a unit of the plan
pub no_more : (P : List UnitPlan) (n w : ℕ) → length P ≤ n → StandsBefore P w n → ⊥
no_more P n w le (next_to v c) = none_past P v w le c
no_more P n w le (before v x c s) = none_past P v x le c

pub first_none : (P : List UnitPlan) (k : ℕ) → length P ≤ k → ((m : ℕ) → m < k → StandsBefore P m m → ⊥) → (n : ℕ) → StandsBefore P n n → ⊥
first_none P k le all n s = elim (less_or n k) [ inl lt ↦ all n lt s | inr ge ↦ no_more P n n (omega (arith, le, ge)) s ]

pub first_more : (P : List UnitPlan) (k : ℕ) → ((m : ℕ) → m < k → StandsBefore P m m → ⊥) → (StandsBefore P k k → ⊥) → (m : ℕ) → m < k + 1 → StandsBefore P m m → ⊥
first_more P k all one m lt s = elim (less_or m k) [ inl below ↦ all m below s | inr ge ↦ (let same : m ≡ k = omega (arith, lt, ge) in one (subst (λ x. StandsBefore P x x) same s)) ]
