-- The troubles that remain stay in their ranges.
use Rattle.std.proofs.Common.{◌≡◌, inl, inr, ℕ, ◌-◌, ◌<◌, ◌≤◌, Bool, true, false, List, [], ◌∷◌, refl, arith}
use Rattle.std.specs.Prelude.{◌==◌, nat_lt, nat_le, if◌then◌else◌}
use Rattle.std.proofs.lemmas.Bool.{cases_Bool, and_parts, and_from, le-leb, leb-true, ltb-true}
use Rattle.unit_model.specs.Rules.{is_size}
use Rattle.unit_model.specs.Troubles.{is_act, is_trouble, all_troubles}
use Rattle.unit_model.specs.declared.spec.Act.{Act}
use Rattle.unit_model.specs.declared.spec.Act.TheVariants.{Refuse, Odd, Fail, Mute, Delay, Busy, Pending}
use Rattle.unit_model.specs.declared.spec.TroubleSpec.{TroubleSpec}
use Rattle.unit_sim.specs.Acting.{is_next, acting, over, behind_turn, lowered, remains, counted}
use Rattle.unit_sim.proofs.Rows.{is_act_in}

-- it is over, or in its ranges
abbrev IsLeft : TroubleSpec → Type 0
IsLeft t = remains t ≡ true → is_trouble t ≡ true

gone : (t : TroubleSpec) → IsLeft (over t)
gone t e = absurd (cc)

turned : (t : TroubleSpec) (a : Act) → nat_le 1 t.nth ≡ true → is_act a ≡ true → IsLeft (behind_turn t a)
turned t (Busy times) number ok = elim (cases_Bool (nat_lt 1 times)) [
  | inl e ↦
      let more : 1 < times = ltb-true 1 times e in
      let few : times ≤ 1000 = leb-true times 1000 (and_parts (nat_le 1 times) (nat_le times 1000) ok).1 in
      let size : is_size 1000 (times - 1) ≡ true = and_from (nat_le 1 (times - 1)) (nat_le (times - 1) 1000) (le-leb 1 (times - 1) (omega arith)) (le-leb (times - 1) 1000 (omega arith)) in
      rw e (λ left. and_from (nat_le 1 t.nth) (is_size 1000 (times - 1)) number size)
  | inr e ↦ rw e (gone t)
]
turned t (Refuse nrc) number ok = gone t
turned t (Odd bytes) number ok = gone t
turned t (Fail status) number ok = gone t
turned t Mute number ok = gone t
turned t (Delay ticks) number ok = gone t
turned t (Pending ticks until) number ok = gone t

one_left : (sid : ℕ) (t : TroubleSpec) → is_trouble t ≡ true → IsLeft (lowered sid t)
one_left sid t ok = elim (cases_Bool (t.sid == sid)) [
  | inl e ↦ elim (cases_Bool (nat_lt 1 t.nth)) [
    | inl f ↦
        let more : 1 < t.nth = ltb-true 1 t.nth f in
        let number : nat_le 1 (t.nth - 1) ≡ true = le-leb 1 (t.nth - 1) (omega arith) in
        rw (e, f) (λ left. and_from (nat_le 1 (t.nth - 1)) (is_act t.act) number (and_parts (nat_le 1 t.nth) (is_act t.act) ok).1)
    | inr f ↦ rw (e, f) (turned t t.act (and_parts (nat_le 1 t.nth) (is_act t.act) ok).0 (and_parts (nat_le 1 t.nth) (is_act t.act) ok).1)
  ]
  | inr e ↦ rw e (λ left. ok)
]

one_and_all : (c : Bool) (w : TroubleSpec) (ts : List TroubleSpec) → (c ≡ true → is_trouble w ≡ true) → all_troubles ts ≡ true → all_troubles (if c then w ∷ ts else ts) ≡ true
one_and_all true w ts is rest = and_from _ _ (is refl) rest
one_and_all false w ts is rest = rest

pub all_left : (sid : ℕ) (ts : List TroubleSpec) → all_troubles ts ≡ true → all_troubles (counted sid ts) ≡ true
all_left sid [] ok = refl
all_left sid (t ∷ ts) ok =
    let parts = and_parts (is_trouble t) (all_troubles ts) ok in
    one_and_all (remains (lowered sid t)) (lowered sid t) (counted sid ts) (one_left sid t parts.0) (all_left sid ts parts.1)

-- the one that acts is in its ranges
pub acts : (sid : ℕ) (ts : List TroubleSpec) → all_troubles ts ≡ true → is_act_in (acting sid ts) ≡ true
acts sid [] ok = refl
acts sid (t ∷ ts) ok = elim (cases_Bool (is_next sid t)) [
  | inl e ↦ rw e (and_parts (nat_le 1 t.nth) (is_act t.act) (and_parts (is_trouble t) (all_troubles ts) ok).0).1
  | inr e ↦ rw e (acts sid ts (and_parts (is_trouble t) (all_troubles ts) ok).1)
]
