-- Troubles by the number of a request among those of its service.
use Rattle.std.proofs.Common.{◌≡◌, ◌⊎◌, inl, inr, ℕ, zero, suc, ◌+◌, ◌-◌, ◌<◌, ◌≤◌, Bool, true, false, List, [], ◌∷◌, ◌++◌, Some, Option, refl, sym, ◌∙◌, ap, arith}
use Rattle.std.specs.Prelude.{◌==◌, ◌&&◌, nat_lt, nat_le, option_map, if◌then◌else◌}
use Rattle.std.proofs.lemmas.Bool.{cases_Bool, and_parts, and_from, le-leb, lt-leb, leb-true, lt-ltb, le-ltb, ltb-true, ltb-false, eqb-true, eq-eqb, ne_eqb}
use Rattle.unit_model.specs.Troubles.{MOST_TIMES, is_act, is_trouble, all_troubles}
use Rattle.unit_model.specs.declared.spec.Act.{Act}
use Rattle.unit_model.specs.declared.spec.Act.TheVariants.{Refuse, Odd, Fail, Mute, Delay, Busy, Pending}
use Rattle.unit_model.specs.declared.spec.TroubleSpec.{TroubleSpec}
use Rattle.unit_sim.specs.Acting.{acting, over, behind_turn, lowered, remains, counted}
use Rattle.unit_sim.specs.Laws.{heard_with, behind, span, is_for, first_for, deed, rest_under_way, rest_of, rests}
use Rattle.unit_sim.proofs.Remaining.{all_left}

number_of_it : (t : TroubleSpec) → is_trouble t ≡ true → 1 ≤ t.nth
number_of_it t ok = leb-true _ _ (and_parts (nat_le 1 t.nth) (is_act t.act) ok).0

some_span : (a : Act) → is_act a ≡ true → 1 ≤ span a
some_span (Busy times) ok = leb-true _ _ (and_parts (nat_le 1 times) (nat_le times MOST_TIMES) ok).0
some_span (Refuse nrc) ok = omega arith
some_span (Odd bytes) ok = omega arith
some_span (Fail status) ok = omega arith
some_span Mute ok = omega arith
some_span (Delay ticks) ok = omega arith
some_span (Pending ticks until) ok = omega arith

-- ------ what remains
-- what is left of an entry that remains
abbrev left_of : TroubleSpec → ℕ → List TroubleSpec
left_of t k = if remains t then rest_of t k else []

same_lt : (a b c d : ℕ) → (a < b → c < d) → (c < d → a < b) → nat_lt a b ≡ nat_lt c d
same_lt a b c d there back = elim (cases_Bool (nat_lt c d)) [
  | inl e ↦ lt-ltb a b (back (ltb-true _ _ e)) ∙ sym e
  | inr e ↦ elim (cases_Bool (nat_lt a b)) [
    | inl f ↦ absurd (omega (arith, ltb-false _ _ e, there (ltb-true _ _ f)))
    | inr f ↦ f ∙ sym e
  ]
]

-- one that waits on, with its number one lower
waits_on_way : (t : TroubleSpec) (a : Act) (k : ℕ) → 1 < t.nth → rest_under_way (record t { nth = t.nth - 1 }) a k ≡ rest_under_way t a (k + 1)
waits_on_way t (Busy times) k more =
    let test : nat_lt (k + 1) (t.nth - 1 + times) ≡ nat_lt (k + 1 + 1) (t.nth + times) = same_lt _ _ _ _ (λ lt. omega arith) (λ lt. omega arith) in
    let size : t.nth - 1 + times - (k + 1) ≡ t.nth + times - (k + 1 + 1) = omega arith in
    λ i. if test i then record t { nth = 1; act = Busy (size i) } ∷ [] else []
waits_on_way t (Refuse nrc) k more = refl
waits_on_way t (Odd bytes) k more = refl
waits_on_way t (Fail status) k more = refl
waits_on_way t Mute k more = refl
waits_on_way t (Delay ticks) k more = refl
waits_on_way t (Pending ticks until) k more = refl

waits_on : (t : TroubleSpec) (k : ℕ) → 1 < t.nth → rest_of (record t { nth = t.nth - 1 }) k ≡ rest_of t (k + 1)
waits_on t k more =
    let test : nat_lt k (t.nth - 1) ≡ nat_lt (k + 1) t.nth = same_lt _ _ _ _ (λ lt. omega arith) (λ lt. omega arith) in
    let number : t.nth - 1 - k ≡ t.nth - (k + 1) = omega arith in
    λ i. if test i then record t { nth = number i } ∷ [] else waits_on_way t t.act k more i

-- the rest of several busy answers
busy_on : (t : TroubleSpec) (times k : ℕ) → t.nth ≡ 1 → 1 < times → rest_of (record t { act = Busy (times - 1) }) k ≡ rest_under_way t (Busy times) (k + 1)
busy_on t times zero one more =
    let now : nat_lt 0 t.nth ≡ true = lt-ltb _ _ (omega (arith, one)) in
    let on : nat_lt (0 + 1 + 1) (t.nth + times) ≡ true = lt-ltb _ _ (omega (arith, one)) in
    let number : t.nth - 0 ≡ 1 = omega (arith, one) in
    let size : times - 1 ≡ t.nth + times - (0 + 1 + 1) = omega (arith, one) in
    rw (now, on) (λ i. record t { nth = number i; act = Busy (size i) } ∷ [])
busy_on t times (suc k) one more =
    let past : nat_lt (suc k) t.nth ≡ false = le-ltb _ _ (omega (arith, one)) in
    let test : nat_lt (suc k + 1) (t.nth + (times - 1)) ≡ nat_lt (suc k + 1 + 1) (t.nth + times) = same_lt _ _ _ _ (λ lt. omega arith) (λ lt. omega arith) in
    let size : t.nth + (times - 1) - (suc k + 1) ≡ t.nth + times - (suc k + 1 + 1) = omega arith in
    rw past (λ i. if test i then record t { nth = 1; act = Busy (size i) } ∷ [] else [])

last_busy : (t : TroubleSpec) (times k : ℕ) → t.nth ≡ 1 → times ≤ 1 → rest_under_way t (Busy times) (k + 1) ≡ []
last_busy t times k one few = let past : nat_lt (k + 1 + 1) (t.nth + times) ≡ false = le-ltb _ _ (omega (arith, one, few)) in rw past refl

turned : (t : TroubleSpec) (a : Act) (k : ℕ) → t.nth ≡ 1 → left_of (behind_turn t a) k ≡ rest_under_way t a (k + 1)
turned t (Busy times) k one = elim (cases_Bool (nat_lt 1 times)) [
  | inl e ↦
      let stays : nat_lt 0 t.nth ≡ true = lt-ltb _ _ (omega (arith, one)) in
      rw (e, stays) (busy_on t times k one (ltb-true _ _ e))
  | inr e ↦ rw e (sym (last_busy t times k one (ltb-false _ _ e)))
]
turned t (Refuse nrc) k one = refl
turned t (Odd bytes) k one = refl
turned t (Fail status) k one = refl
turned t Mute k one = refl
turned t (Delay ticks) k one = refl
turned t (Pending ticks until) k one = refl

-- a request more of any service
one_more_heard : (s : ℕ) (t : TroubleSpec) (k : ℕ) → 1 ≤ t.nth → left_of (lowered s t) k ≡ rest_of t (if t.sid == s then k + 1 else k)
one_more_heard s t k some = elim (cases_Bool (t.sid == s)) [
  | inl e ↦ elim (cases_Bool (nat_lt 1 t.nth)) [
    | inl f ↦
        let more : 1 < t.nth = ltb-true _ _ f in
        let stays : nat_lt 0 (t.nth - 1) ≡ true = lt-ltb _ _ (omega (arith, more)) in
        rw (e, f, stays) (waits_on t k more)
    | inr f ↦
        let one : t.nth ≡ 1 = omega (arith, ltb-false _ _ f, some) in
        let past : nat_lt (k + 1) t.nth ≡ false = le-ltb _ _ (omega (arith, one)) in
        rw (e, f, past) (turned t t.act k one)
  ]
  | inr e ↦
      let stays : nat_lt 0 t.nth ≡ true = lt-ltb _ _ (omega (arith, some)) in
      rw (e, stays) refl
]

lowered_sid : (s : ℕ) (t : TroubleSpec) → (lowered s t).sid ≡ t.sid
lowered_sid s t = elim (cases_Bool (t.sid == s)) [
  | inl e ↦ elim (cases_Bool (nat_lt 1 t.nth)) [ inl f ↦ rw (e, f) refl | inr f ↦ rw (e, f) (go t.act) ]
  | inr e ↦ rw e refl
]
  where
    busy : (times : ℕ) (c : Bool) → (if c then record t { act = Busy (times - 1) } else over t).sid ≡ t.sid
    busy times true = refl
    busy times false = refl

    go : (a : Act) → (behind_turn t a).sid ≡ t.sid
    go (Busy times) = busy times (nat_lt 1 times)
    go (Refuse nrc) = refl
    go (Odd bytes) = refl
    go (Fail status) = refl
    go Mute = refl
    go (Delay ticks) = refl
    go (Pending ticks until) = refl

joins : (before : List ℕ) (w : TroubleSpec) (ts : List TroubleSpec) (c : Bool) → rests before (if c then w ∷ ts else ts) ≡ (if c then rest_of w (heard_with w.sid before) else []) ++ rests before ts
joins before w ts true = refl
joins before w ts false = refl

rests_on : (s : ℕ) (before : List ℕ) (ts : List TroubleSpec) → all_troubles ts ≡ true → rests before (counted s ts) ≡ rests (s ∷ before) ts
rests_on s before [] ok = refl
rests_on s before (t ∷ ts) ok =
    let parts = and_parts (is_trouble t) (all_troubles ts) ok in
    joins before (lowered s t) (counted s ts) (remains (lowered s t))
    ∙ ap (λ (n : ℕ). left_of (lowered s t) (heard_with n before) ++ rests before (counted s ts)) (lowered_sid s t)
    ∙ (λ i. one_more_heard s t (heard_with t.sid before) (number_of_it t parts.0) i ++ rests_on s before ts parts.1 i)

nothing_yet : (ts : List TroubleSpec) → all_troubles ts ≡ true → ts ≡ rests [] ts
nothing_yet [] ok = refl
nothing_yet (t ∷ ts) ok =
    let parts = and_parts (is_trouble t) (all_troubles ts) ok in
    let some : 1 ≤ t.nth = number_of_it t parts.0 in
    let waits : nat_lt 0 t.nth ≡ true = lt-ltb _ _ (omega (arith, some)) in
    let number : t.nth ≡ t.nth - 0 = omega arith in
    rw waits (λ i. record t { nth = number i } ∷ nothing_yet ts parts.1 i)

pub remain : (before : List ℕ) (ts : List TroubleSpec) → all_troubles ts ≡ true → behind before ts ≡ rests before ts
remain [] ts ok = nothing_yet ts ok
remain (s ∷ ss) ts ok = remain ss (counted s ts) (all_left s ts ok) ∙ rests_on s ss ts ok

-- ------ which acts
abbrev deeds : Option Act → Option Act
deeds a = option_map deed a

-- an entry that is next, and one that is not
next_acts : (sid : ℕ) (w : TroubleSpec) (a : Act) (c : Bool) (r : List TroubleSpec) → w.nth ≡ 1 → deed w.act ≡ deed a → c ≡ true → deeds (acting sid (w ∷ r)) ≡ deeds (if w.sid == sid && c then Some a else acting sid r)
next_acts sid w a c r one same is = elim (cases_Bool (w.sid == sid)) [
  | inl e ↦ let now : (w.nth == 1) ≡ true = eq-eqb _ _ one in rw (e, now, is) (ap (λ (d : Act). Some d) same)
  | inr e ↦ rw e refl
]

waits_still : (sid : ℕ) (w : TroubleSpec) (a : Act) (c : Bool) (r : List TroubleSpec) → 1 < w.nth → c ≡ false → deeds (acting sid (w ∷ r)) ≡ deeds (if w.sid == sid && c then Some a else acting sid r)
waits_still sid w a c r more is = elim (cases_Bool (w.sid == sid)) [
  | inl e ↦ let no : (w.nth == 1) ≡ false = ne_eqb _ _ (λ one. omega (arith, one, more)) in rw (e, no, is) refl
  | inr e ↦ rw e refl
]

is_over : (sid : ℕ) (t : TroubleSpec) (a : Act) (c : Bool) (r : List TroubleSpec) → c ≡ false → deeds (acting sid r) ≡ deeds (if t.sid == sid && c then Some a else acting sid r)
is_over sid t a c r is = elim (cases_Bool (t.sid == sid)) [ inl e ↦ rw (e, is) refl | inr e ↦ rw e refl ]

for_it : (n nth : ℕ) (a : Act) → nth ≤ n → n < nth + span a → is_for n nth a ≡ true
for_it n nth a from to = and_from _ _ (le-leb _ _ from) (lt-ltb _ _ to)

before_it : (n nth : ℕ) (a : Act) → n < nth → is_for n nth a ≡ false
before_it n nth a lt = let no : nat_le nth n ≡ false = lt-leb _ _ lt in rw no refl

behind_it : (n nth : ℕ) (a : Act) → nth ≤ n → nth + span a ≤ n → is_for n nth a ≡ false
behind_it n nth a from past =
    let yes : nat_le nth n ≡ true = le-leb _ _ from in
    let no : nat_lt n (nth + span a) ≡ false = le-ltb _ _ past in
    rw (yes, no) refl

under : (t : TroubleSpec) (a : Act) (k sid : ℕ) (r : List TroubleSpec) → t.nth ≤ k → deeds (acting sid (rest_under_way t a k ++ r)) ≡ deeds (if t.sid == sid && is_for (k + 1) t.nth a then Some a else acting sid r)
under t (Busy times) k sid r past = elim (cases_Bool (nat_lt (k + 1) (t.nth + times))) [
  | inl e ↦
      let more : k + 1 < t.nth + times = ltb-true _ _ e in
      let now : is_for (k + 1) t.nth (Busy times) ≡ true = for_it (k + 1) t.nth (Busy times) (omega (arith, past)) more in
      first e ∙ next_acts sid (record t { nth = 1; act = Busy (t.nth + times - (k + 1)) }) (Busy times) (is_for (k + 1) t.nth (Busy times)) r refl refl now
  | inr e ↦
      let no : is_for (k + 1) t.nth (Busy times) ≡ false = behind_it (k + 1) t.nth (Busy times) (omega (arith, past)) (ltb-false _ _ e) in
      first e ∙ is_over sid t (Busy times) (is_for (k + 1) t.nth (Busy times)) r no
]
  where
    first : {c : Bool} → nat_lt (k + 1) (t.nth + times) ≡ c → deeds (acting sid (rest_under_way t (Busy times) k ++ r)) ≡ deeds (acting sid ((if c then record t { nth = 1; act = Busy (t.nth + times - (k + 1)) } ∷ [] else []) ++ r))
    first e = ap (λ (c : Bool). deeds (acting sid ((if c then record t { nth = 1; act = Busy (t.nth + times - (k + 1)) } ∷ [] else []) ++ r))) e
under t (Refuse nrc) k sid r past = is_over sid t (Refuse nrc) _ r (behind_it (k + 1) t.nth (Refuse nrc) (omega (arith, past)) (omega (arith, past)))
under t (Odd bytes) k sid r past = is_over sid t (Odd bytes) _ r (behind_it (k + 1) t.nth (Odd bytes) (omega (arith, past)) (omega (arith, past)))
under t (Fail status) k sid r past = is_over sid t (Fail status) _ r (behind_it (k + 1) t.nth (Fail status) (omega (arith, past)) (omega (arith, past)))
under t Mute k sid r past = is_over sid t Mute _ r (behind_it (k + 1) t.nth Mute (omega (arith, past)) (omega (arith, past)))
under t (Delay ticks) k sid r past = is_over sid t (Delay ticks) _ r (behind_it (k + 1) t.nth (Delay ticks) (omega (arith, past)) (omega (arith, past)))
under t (Pending ticks until) k sid r past = is_over sid t (Pending ticks until) _ r (behind_it (k + 1) t.nth (Pending ticks until) (omega (arith, past)) (omega (arith, past)))

one_acts : (t : TroubleSpec) (k sid : ℕ) (r : List TroubleSpec) → 1 ≤ span t.act → deeds (acting sid (rest_of t k ++ r)) ≡ deeds (if t.sid == sid && is_for (k + 1) t.nth t.act then Some t.act else acting sid r)
one_acts t k sid r some = elim (cases_Bool (nat_lt k t.nth)) [
  | inl e ↦ rw e (waiting (ltb-true _ _ e) (cases_Bool (t.nth == k + 1)))
  | inr e ↦ rw e (under t t.act k sid r (ltb-false _ _ e))
]
  where
    waiting : k < t.nth → ((t.nth == k + 1) ≡ true) ⊎ ((t.nth == k + 1) ≡ false) → deeds (acting sid (record t { nth = t.nth - k } ∷ r)) ≡ deeds (if t.sid == sid && is_for (k + 1) t.nth t.act then Some t.act else acting sid r)
    waiting lt (inl is) =
        let now : t.nth ≡ k + 1 = eqb-true _ _ is in
        next_acts sid (record t { nth = t.nth - k }) t.act _ r (omega (arith, now)) refl (for_it (k + 1) t.nth t.act (omega (arith, now)) (omega (arith, now, some)))
    waiting lt (inr not) =
        let other : t.nth ≡ k + 1 → ⊥ = λ is. let yes : (t.nth == k + 1) ≡ true = eq-eqb _ _ is in let p : ⊥ = cc in p in
        let far : k + 1 < t.nth = omega (arith, lt, other) in
        waits_still sid (record t { nth = t.nth - k }) t.act _ r (omega (arith, far)) (before_it (k + 1) t.nth t.act far)

rests_act : (sid : ℕ) (before : List ℕ) (ts : List TroubleSpec) → all_troubles ts ≡ true → deeds (acting sid (rests before ts)) ≡ deeds (first_for sid before ts)
rests_act sid before [] ok = refl
rests_act sid before (t ∷ ts) ok =
    let parts = and_parts (is_trouble t) (all_troubles ts) ok in
    let some : 1 ≤ span t.act = some_span t.act (and_parts (nat_le 1 t.nth) (is_act t.act) parts.0).1 in
    one_acts t (heard_with t.sid before) sid (rests before ts) some ∙ further (cases_Bool (t.sid == sid)) (rests_act sid before ts parts.1)
  where
    either : (c : Bool) → deeds (acting sid (rests before ts)) ≡ deeds (first_for sid before ts) → deeds (if c then Some t.act else acting sid (rests before ts)) ≡ deeds (if c then Some t.act else first_for sid before ts)
    either true same = refl
    either false same = same

    further : ((t.sid == sid) ≡ true) ⊎ ((t.sid == sid) ≡ false) → deeds (acting sid (rests before ts)) ≡ deeds (first_for sid before ts) → deeds (if t.sid == sid && is_for (heard_with t.sid before + 1) t.nth t.act then Some t.act else acting sid (rests before ts)) ≡ deeds (first_for sid before (t ∷ ts))
    further (inl e) same =
        let is : t.sid ≡ sid = eqb-true _ _ e in
        ap (λ (n : ℕ). deeds (if t.sid == sid && is_for (heard_with n before + 1) t.nth t.act then Some t.act else acting sid (rests before ts))) is
        ∙ either (t.sid == sid && is_for (heard_with sid before + 1) t.nth t.act) same
    further (inr e) same = rw e same

pub first_acts : (sid : ℕ) (before : List ℕ) (ts : List TroubleSpec) → all_troubles ts ≡ true → deeds (acting sid (behind before ts)) ≡ deeds (first_for sid before ts)
first_acts sid before ts ok = ap (λ (ws : List TroubleSpec). deeds (acting sid ws)) (remain before ts ok) ∙ rests_act sid before ts ok
