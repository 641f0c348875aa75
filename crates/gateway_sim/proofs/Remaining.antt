-- The troubles that remain behind a request: alive checks stay, and all are in their ranges.
use Rattle.std.proofs.Common.{◌≡◌, inl, inr, ℕ, ◌-◌, ◌<◌, ◌≤◌, Bool, true, false, List, [], ◌∷◌, length, map, filter, refl, sym, ◌∙◌, ap, arith}
use Rattle.std.specs.Prelude.{◌==◌, ◌&&◌, nat_lt, nat_le, if◌then◌else◌}
use Rattle.std.proofs.lemmas.Bool.{cases_Bool, and_parts, and_from, le-leb, leb-true, ltb-true}
use Rattle.gateway_sim.specs.declared.spec.GatewayTrouble.{GatewayTrouble}
use Rattle.gateway_sim.specs.declared.spec.GatewayTrouble.TheVariants.{Deny, Silent, Nack, Alive}
use Rattle.gateway_sim.specs.Acting.{lowered_activation, lowered_message, remains, counted_activation, counted_message, alive_by, alive_of}
use Rattle.gateway_sim.specs.Troubles.{LAST_TICK, is_trouble, all_troubles}

-- what lowers a trouble keeps alive checks, and its ranges where it is not over
record Lowers (f : GatewayTrouble → GatewayTrouble) : Type 0 where
  pub alive : (t : GatewayTrouble) (rest : List ℕ) → alive_by (f t) rest ≡ alive_by t rest
  pub gone : (t : GatewayTrouble) (rest : List ℕ) → remains (f t) ≡ false → rest ≡ alive_by t rest
  pub left : (t : GatewayTrouble) → is_trouble t ≡ true → remains (f t) ≡ true → is_trouble (f t) ≡ true

more : (n : ℕ) → nat_lt 0 n ≡ true → nat_le 1 n ≡ true
more n e = le-leb 1 n (omega (arith, ltb-true 0 n e))

activation_lowers : Lowers lowered_activation
activation_lowers = record { alive = alive; gone = gone; left = left }
  where
    alive : (t : GatewayTrouble) (rest : List ℕ) → alive_by (lowered_activation t) rest ≡ alive_by t rest
    alive (Deny nth code) rest = refl
    alive (Silent nth) rest = refl
    alive (Nack unit nth code) rest = refl
    alive (Alive tick) rest = refl

    gone : (t : GatewayTrouble) (rest : List ℕ) → remains (lowered_activation t) ≡ false → rest ≡ alive_by t rest
    gone (Deny nth code) rest e = refl
    gone (Silent nth) rest e = refl
    gone (Nack unit nth code) rest e = refl
    gone (Alive tick) rest e = cc

    left : (t : GatewayTrouble) → is_trouble t ≡ true → remains (lowered_activation t) ≡ true → is_trouble (lowered_activation t) ≡ true
    left (Deny nth code) ok e = more (nth - 1) e
    left (Silent nth) ok e = more (nth - 1) e
    left (Nack unit nth code) ok e = ok
    left (Alive tick) ok e = ok

message_lowers : (target : ℕ) → Lowers (lowered_message target)
message_lowers target = record { alive = alive; gone = gone; left = left }
  where
    alive_if : (c : Bool) (unit nth code : ℕ) (rest : List ℕ) → alive_by (if c then Nack unit (nth - 1) code else Nack unit nth code) rest ≡ rest
    alive_if true unit nth code rest = refl
    alive_if false unit nth code rest = refl

    left_if : (c : Bool) (unit nth code : ℕ) → nat_le 1 nth ≡ true → remains (if c then Nack unit (nth - 1) code else Nack unit nth code) ≡ true → is_trouble (if c then Nack unit (nth - 1) code else Nack unit nth code) ≡ true
    left_if true unit nth code ok e = more (nth - 1) e
    left_if false unit nth code ok e = ok

    alive : (t : GatewayTrouble) (rest : List ℕ) → alive_by (lowered_message target t) rest ≡ alive_by t rest
    alive (Deny nth code) rest = refl
    alive (Silent nth) rest = refl
    alive (Nack unit nth code) rest = alive_if (unit == target) unit nth code rest
    alive (Alive tick) rest = refl

    gone : (t : GatewayTrouble) (rest : List ℕ) → remains (lowered_message target t) ≡ false → rest ≡ alive_by t rest
    gone (Deny nth code) rest e = refl
    gone (Silent nth) rest e = refl
    gone (Nack unit nth code) rest e = refl
    gone (Alive tick) rest e = cc

    left : (t : GatewayTrouble) → is_trouble t ≡ true → remains (lowered_message target t) ≡ true → is_trouble (lowered_message target t) ≡ true
    left (Deny nth code) ok e = ok
    left (Silent nth) ok e = ok
    left (Nack unit nth code) ok e = left_if (unit == target) unit nth code ok e
    left (Alive tick) ok e = ok

module _ (f : GatewayTrouble → GatewayTrouble) (l : Lowers f) where
  abbrev joined : Bool → GatewayTrouble → List GatewayTrouble → List GatewayTrouble
  joined c t ts = if c then f t ∷ ts else ts

  one_alive : (c : Bool) (t : GatewayTrouble) (ts : List GatewayTrouble) → remains (f t) ≡ c → alive_of (joined c t ts) ≡ alive_by t (alive_of ts)
  one_alive true t ts e = l.alive t (alive_of ts)
  one_alive false t ts e = l.gone t (alive_of ts) e

  alive_same : (ts : List GatewayTrouble) → alive_of (filter remains (map f ts)) ≡ alive_of ts
  alive_same [] = refl
  alive_same (t ∷ ts) = one_alive (remains (f t)) t (filter remains (map f ts)) refl ∙ ap (alive_by t) (alive_same ts)

  one_left : (c : Bool) (t : GatewayTrouble) (ts : List GatewayTrouble) → remains (f t) ≡ c → is_trouble t ≡ true → all_troubles ts ≡ true → all_troubles (joined c t ts) ≡ true
  one_left true t ts e ok rest = and_from _ _ (l.left t ok e) rest
  one_left false t ts e ok rest = rest

  all_left : (ts : List GatewayTrouble) → all_troubles ts ≡ true → all_troubles (filter remains (map f ts)) ≡ true
  all_left [] ok = refl
  all_left (t ∷ ts) ok =
      let parts = and_parts (is_trouble t) (all_troubles ts) ok in
      one_left (remains (f t)) t (filter remains (map f ts)) refl parts.0 (all_left ts parts.1)

  one_fewer : (c : Bool) (t : GatewayTrouble) (ts us : List GatewayTrouble) → length ts ≤ length us → length (joined c t ts) ≤ length (t ∷ us)
  one_fewer true t ts us le = omega (arith, le)
  one_fewer false t ts us le = omega (arith, le)

  no_more : (ts : List GatewayTrouble) → length (filter remains (map f ts)) ≤ length ts
  no_more [] = omega arith
  no_more (t ∷ ts) = one_fewer (remains (f t)) t (filter remains (map f ts)) ts (no_more ts)

pub alive_activation : (ts : List GatewayTrouble) → alive_of (counted_activation ts) ≡ alive_of ts
alive_activation ts = alive_same lowered_activation activation_lowers ts

pub alive_message : (target : ℕ) (ts : List GatewayTrouble) → alive_of (counted_message target ts) ≡ alive_of ts
alive_message target ts = alive_same (lowered_message target) (message_lowers target) ts

pub left_activation : (ts : List GatewayTrouble) → all_troubles ts ≡ true → all_troubles (counted_activation ts) ≡ true
left_activation ts ok = all_left lowered_activation activation_lowers ts ok

pub left_message : (target : ℕ) (ts : List GatewayTrouble) → all_troubles ts ≡ true → all_troubles (counted_message target ts) ≡ true
left_message target ts ok = all_left (lowered_message target) (message_lowers target) ts ok

pub few_activation : (ts : List GatewayTrouble) → length (counted_activation ts) ≤ length ts
few_activation ts = no_more lowered_activation activation_lowers ts

pub few_message : (target : ℕ) (ts : List GatewayTrouble) → length (counted_message target ts) ≤ length ts
few_message target ts = no_more (lowered_message target) (message_lowers target) ts
