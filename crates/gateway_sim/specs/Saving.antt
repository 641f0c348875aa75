-- A gateway as a spec: the troubles that remain, with ticks counted anew.
use Rattle.std.specs.Prelude.{◌≡◌, ℕ, ◌-◌, nat_le, List, [], ◌∷◌, Option, None, Some, if◌then◌else◌}
use Rattle.gateway_sim.specs.declared.spec.GatewayTrouble.{GatewayTrouble}
use Rattle.gateway_sim.specs.declared.spec.GatewayTrouble.TheVariants.{Deny, Silent, Nack, Alive}
use Rattle.gateway_sim.specs.declared.spec.GatewaySpec.{GatewaySpec}
use Rattle.gateway_sim.specs.Gates.{Gate}
use Rattle.gateway_sim.specs.Troubles.{IsGatewaySpec}

-- an alive check that was sent is over; the tick of another is lowered by the present one
abbrev pub left_in : ℕ → GatewayTrouble → Option GatewayTrouble
left_in now (Deny nth code) = Some (Deny nth code)
left_in now (Silent nth) = Some (Silent nth)
left_in now (Nack unit nth code) = Some (Nack unit nth code)
left_in now (Alive tick) = if nat_le tick now then None else Some (Alive (tick - now))

abbrev pub put_first : Option GatewayTrouble → List GatewayTrouble → List GatewayTrouble
put_first None rest = rest
put_first (Some t) rest = t ∷ rest

abbrev pub left_at : ℕ → List GatewayTrouble → List GatewayTrouble
left_at now [] = []
left_at now (t ∷ ts) = put_first (left_in now t) (left_at now ts)

pub record SavesGate (g : Gate) (spec : GatewaySpec) : Type 0 where
  pub is : IsGatewaySpec spec
  pub entity : spec.entity ≡ g.gateway.entity
  pub gateway : spec.gateway ≡ left_at g.gateway.tick g.troubles
  pub units : spec.units ≡ g.units
