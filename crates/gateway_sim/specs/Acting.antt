-- Which trouble of a gateway acts, and which remain behind it.
use Rattle.std.specs.Prelude.{ℕ, ◌-◌, Bool, true, false, ◌&&◌, ◌==◌, not, nat_lt, List, [], ◌∷◌, map, filter, Option, None, Some, if◌then◌else◌}
use Rattle.gateway_sim.specs.declared.spec.GatewayTrouble.{GatewayTrouble}
use Rattle.gateway_sim.specs.declared.spec.GatewayTrouble.TheVariants.{Deny, Silent, Nack, Alive}
use Rattle.gateway_sim.specs.declared.trouble.Answer.{Answer}
use Rattle.gateway_sim.specs.declared.trouble.Answer.TheVariants as answer

-- the answer to the next activation request, where the trouble stands for it; one that says 10 is the obedient answer
abbrev pub turn_of : GatewayTrouble → Option Answer
turn_of (Deny nth code) =
    if nth == 1 then Some (if code == 16 then answer.Accept else answer.Deny code) else None
turn_of (Silent nth) = if nth == 1 then Some answer.Ignore else None
turn_of (Nack unit nth code) = None
turn_of (Alive tick) = None

abbrev pub chosen : Option Answer → Answer → Answer
chosen None rest = rest
chosen (Some a) rest = a

-- the first of the list that stands for it
abbrev pub how : List GatewayTrouble → Answer
how [] = answer.Accept
how (t ∷ ts) = chosen (turn_of t) (how ts)

-- the code with which the next message to a unit is refused, where the trouble stands for it
abbrev pub code_for : ℕ → GatewayTrouble → Option ℕ
code_for target (Deny nth code) = None
code_for target (Silent nth) = None
code_for target (Nack unit nth code) = if unit == target then (if nth == 1 then Some code else None) else None
code_for target (Alive tick) = None

abbrev pub first_code : Option ℕ → Option ℕ → Option ℕ
first_code None rest = rest
first_code (Some code) rest = Some code

abbrev pub nack_for : ℕ → List GatewayTrouble → Option ℕ
nack_for target [] = None
nack_for target (t ∷ ts) = first_code (code_for target t) (nack_for target ts)

-- behind an activation request
abbrev pub lowered_activation : GatewayTrouble → GatewayTrouble
lowered_activation (Deny nth code) = Deny (nth - 1) code
lowered_activation (Silent nth) = Silent (nth - 1)
lowered_activation (Nack unit nth code) = Nack unit nth code
lowered_activation (Alive tick) = Alive tick

-- behind a message to a unit
abbrev pub lowered_message : ℕ → GatewayTrouble → GatewayTrouble
lowered_message target (Deny nth code) = Deny nth code
lowered_message target (Silent nth) = Silent nth
lowered_message target (Nack unit nth code) =
    if unit == target then Nack unit (nth - 1) code else Nack unit nth code
lowered_message target (Alive tick) = Alive tick

abbrev pub remains : GatewayTrouble → Bool
remains (Deny nth code) = nat_lt 0 nth
remains (Silent nth) = nat_lt 0 nth
remains (Nack unit nth code) = nat_lt 0 nth
remains (Alive tick) = true

-- the list behind an activation request, and behind a message to a unit: each counts it
abbrev pub counted_activation : List GatewayTrouble → List GatewayTrouble
counted_activation ts = filter remains (map lowered_activation ts)

abbrev pub counted_message : ℕ → List GatewayTrouble → List GatewayTrouble
counted_message target ts = filter remains (map (lowered_message target) ts)

-- an alive check at this tick
abbrev pub is_at : ℕ → GatewayTrouble → Bool
is_at now (Deny nth code) = false
is_at now (Silent nth) = false
is_at now (Nack unit nth code) = false
is_at now (Alive tick) = tick == now

abbrev pub alive_by : GatewayTrouble → List ℕ → List ℕ
alive_by (Deny nth code) rest = rest
alive_by (Silent nth) rest = rest
alive_by (Nack unit nth code) rest = rest
alive_by (Alive tick) rest = tick ∷ rest

abbrev pub alive_of : List GatewayTrouble → List ℕ
alive_of [] = []
alive_of (t ∷ ts) = alive_by t (alive_of ts)
