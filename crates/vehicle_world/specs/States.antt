-- A simulated vehicle: what it stands for.
use Rattle.std.specs.Prelude.{ℕ, suc, Bool, false, ◌==◌, List, [], ◌∷◌, map, Option, None, Some, is_some, if◌then◌else◌}
use Rattle.unit_model.specs.Feed.{DueReply}
use Rattle.unit_model.specs.Unit.{ControlUnit}
use Rattle.unit_model.specs.Vehicle.{HeldAnswer, Vehicle, redialed}
use Rattle.unit_sim.specs.Sims.{Sim, sim_of}
use Rattle.gateway_sim.specs.Gates.{Gate}
use Rattle.vehicle_world.specs.declared.held.Held.{Held}
use Rattle.vehicle_world.specs.declared.node.Node.{Node}
use Rattle.vehicle_world.specs.declared.outgoing.Outgoing.{Outgoing}

-- the gateway, the units in their order, and the answers that are held
pub record State : Type 0 where
  pub gate : Gate
  pub sims : List Sim
  pub held : List HeldAnswer

abbrev pub node_sim : Node → Sim
node_sim n = sim_of n.sim

abbrev pub answer_of : Held → HeldAnswer
answer_of h = record {
  unit = h.unit;
  sid = h.sid;
  body = h.body;
  every = h.every;
  watch = h.watch;
  service = h.service;
  from = h.from;
  pending = h.pending;
}

abbrev pub reply_of : Outgoing → DueReply
reply_of o = record { unit = o.unit; due = o.due; body = o.body }

abbrev pub unit_in : Sim → ControlUnit
unit_in s = s.unit

abbrev pub vehicle_in : State → Vehicle
vehicle_in s = record { gateway = record s.gate.gateway { held = s.held }; units = map unit_in s.sims }

-- ------ the first unit with an address
abbrev pub place_from : ℕ → ℕ → List Sim → Option ℕ
place_from n target [] = None
place_from n target (s ∷ ss) = if s.unit.address == target then Some n else place_from (suc n) target ss

abbrev pub sim_at : ℕ → List Sim → Option Sim
sim_at target [] = None
sim_at target (s ∷ ss) = if s.unit.address == target then Some s else sim_at target ss

abbrev pub change_at : ℕ → (Sim → Sim) → List Sim → List Sim
change_at target f [] = []
change_at target f (s ∷ ss) = if s.unit.address == target then f s ∷ ss else s ∷ change_at target f ss

abbrev pub heard_in : ℕ → Option Sim → Bool
heard_in sid None = false
heard_in sid (Some s) = s.services sid

-- whether the unit with an address has heard a service
abbrev pub has_heard : List Sim → ℕ → ℕ → Bool
has_heard sims unit sid = heard_in sid (sim_at unit sims)

abbrev pub is_there : List Sim → Option ℕ → Bool
is_there sims None = false
is_there sims (Some target) = is_some (sim_at target sims)

-- what a new connection would leave
abbrev pub forgotten : State → Vehicle
forgotten s = redialed (vehicle_in s)
