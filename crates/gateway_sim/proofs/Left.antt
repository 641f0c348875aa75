-- What is left of a gateway's troubles at a tick.
use Rattle.std.proofs.Common.{◌≡◌, inl, inr, ℕ, ◌+◌, ◌-◌, ◌<◌, ◌≤◌, Bool, true, false, List, [], ◌∷◌, ◌++◌, length, drop, get_or, Some, None, Option, refl, sym, ◌∙◌, ap, arith, append_assoc}
use Rattle.std.specs.Prelude.{nat_le, nat_lt, ◌&&◌, if◌then◌else◌}
use Rattle.std.proofs.lemmas.Bool.{cases_Bool, and_parts, and_from, lt-ltb, ltb-true}
use Rattle.std.proofs.lemmas.List.{drop_more}
use Rattle.gateway_sim.specs.declared.spec.GatewayTrouble.{GatewayTrouble}
use Rattle.gateway_sim.specs.declared.spec.GatewayTrouble.TheVariants.{Deny, Silent, Nack, Alive}
use Rattle.gateway_sim.specs.Saving.{left_in, put_first, left_at}
use Rattle.gateway_sim.specs.Troubles.{LAST_TICK, is_trouble, all_troubles}

abbrev listed : Option GatewayTrouble → List GatewayTrouble
listed None = []
listed (Some t) = t ∷ []

put_is : (o : Option GatewayTrouble) (rest : List GatewayTrouble) → put_first o rest ≡ listed o ++ rest
put_is None rest = refl
put_is (Some t) rest = refl

-- one trouble more was looked at
pub left_on : (now i : ℕ) (ts all made : List GatewayTrouble) (t : GatewayTrouble) → i < length ts → t ≡ get_or ts i t → all ≡ made ++ left_at now (drop i ts) → all ≡ (made ++ listed (left_in now t)) ++ left_at now (drop (i + 1) ts)
left_on now i ts all made t lt is so =
    so
    ∙ ap (λ (us : List GatewayTrouble). made ++ left_at now us) (drop_more ts i t lt ∙ ap (λ (u : GatewayTrouble). u ∷ drop (i + 1) ts) (sym is))
    ∙ ap (λ (us : List GatewayTrouble). made ++ us) (put_is (left_in now t) (left_at now (drop (i + 1) ts)))
    ∙ sym (append_assoc made (listed (left_in now t)) (left_at now (drop (i + 1) ts)))

pub some_left : (now i : ℕ) (ts all made : List GatewayTrouble) (t u : GatewayTrouble) → i < length ts → t ≡ get_or ts i t → left_in now t ≡ Some u → all ≡ made ++ left_at now (drop i ts) → all ≡ (made ++ u ∷ []) ++ left_at now (drop (i + 1) ts)
some_left now i ts all made t u lt is left so = left_on now i ts all made t lt is so ∙ ap (λ (o : Option GatewayTrouble). (made ++ listed o) ++ left_at now (drop (i + 1) ts)) left

pub none_left : (now i : ℕ) (ts all made : List GatewayTrouble) (t : GatewayTrouble) → i < length ts → t ≡ get_or ts i t → left_in now t ≡ None → all ≡ made ++ left_at now (drop i ts) → all ≡ made ++ left_at now (drop (i + 1) ts)
none_left now i ts all made t lt is left so = left_on now i ts all made t lt is so ∙ ap (λ (o : Option GatewayTrouble). (made ++ listed o) ++ left_at now (drop (i + 1) ts)) left ∙ append_assoc made [] (left_at now (drop (i + 1) ts))

-- ------ they are in their ranges
abbrev all_in : Option GatewayTrouble → Bool
all_in None = true
all_in (Some t) = is_trouble t

one_in : (now : ℕ) (t : GatewayTrouble) → is_trouble t ≡ true → all_in (left_in now t) ≡ true
one_in now (Deny nth code) ok = ok
one_in now (Silent nth) ok = ok
one_in now (Nack unit nth code) ok = ok
one_in now (Alive tick) ok = by (nat_le tick now)
  where
    lower : nat_lt (tick - now) LAST_TICK ≡ true
    lower = lt-ltb (tick - now) LAST_TICK (omega (arith, ltb-true tick LAST_TICK ok))

    by : (c : Bool) → all_in (if c then None else Some (Alive (tick - now))) ≡ true
    by true = refl
    by false = lower

put_in : (o : Option GatewayTrouble) (rest : List GatewayTrouble) → all_in o ≡ true → all_troubles rest ≡ true → all_troubles (put_first o rest) ≡ true
put_in None rest one ok = ok
put_in (Some t) rest one ok = and_from _ _ one ok

pub all_in_range : (now : ℕ) (ts : List GatewayTrouble) → all_troubles ts ≡ true → all_troubles (left_at now ts) ≡ true
all_in_range now [] ok = refl
all_in_range now (t ∷ ts) ok =
    let parts = and_parts (is_trouble t) (all_troubles ts) ok in
    put_in (left_in now t) (left_at now ts) (one_in now t parts.0) (all_in_range now ts parts.1)

one_fewer : (o : Option GatewayTrouble) (t : GatewayTrouble) (rest ts : List GatewayTrouble) → length rest ≤ length ts → length (put_first o rest) ≤ length (t ∷ ts)
one_fewer None t rest ts le = omega (arith, le)
one_fewer (Some u) t rest ts le = omega (arith, le)

pub no_more : (now : ℕ) (ts : List GatewayTrouble) → length (left_at now ts) ≤ length ts
no_more now [] = omega arith
no_more now (t ∷ ts) = one_fewer (left_in now t) t (left_at now ts) ts (no_more now ts)
