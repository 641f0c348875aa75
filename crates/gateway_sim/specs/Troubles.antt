-- The troubles that a gateway may be made with.
use Rattle.std.specs.Prelude.{ℕ, ◌^◌, ◌≤◌, Bool, true, ◌&&◌, nat_le, nat_lt, List, [], ◌∷◌, length, IsTrue}
use Rattle.gateway_sim.specs.declared.spec.GatewayTrouble.{GatewayTrouble}
use Rattle.gateway_sim.specs.declared.spec.GatewayTrouble.TheVariants.{Deny, Silent, Nack, Alive}
use Rattle.gateway_sim.specs.declared.spec.GatewaySpec.{GatewaySpec}

abbrev pub MOST_TROUBLES : ℕ
MOST_TROUBLES = 1000

abbrev pub LAST_TICK : ℕ
LAST_TICK = 2 ^ 63

abbrev pub is_trouble : GatewayTrouble → Bool
is_trouble (Deny nth code) = nat_le 1 nth
is_trouble (Silent nth) = nat_le 1 nth
is_trouble (Nack unit nth code) = nat_le 1 nth
is_trouble (Alive tick) = nat_lt tick LAST_TICK

abbrev pub all_troubles : List GatewayTrouble → Bool
all_troubles [] = true
all_troubles (t ∷ ts) = is_trouble t && all_troubles ts

pub record IsGatewaySpec (spec : GatewaySpec) : Type 0 where
  pub troubles : IsTrue (all_troubles spec.gateway)
  pub few : length spec.gateway ≤ MOST_TROUBLES
