-- A simulated vehicle behind its calls.
use Rattle.std.specs.Prelude.{◌≡◌, ℕ, ◌+◌, ◌≤◌, ◌==◌, List, [], ◌∷◌, ◌++◌, length, map, take, drop, min, if◌then◌else◌}
use Rattle.unit_model.specs.Feed.{Feeds}
use Rattle.unit_model.specs.Poll.{Ticks, Carries, IsPlain, held_on, pending_of, raises}
use Rattle.unit_model.specs.Vehicle.{HeldAnswer, Vehicle, redialed}
use Rattle.unit_model.specs.declared.reply.Got.{Got}
use Rattle.unit_model.specs.declared.reply.Got.TheVariants.{Quiet, Bytes}
use Rattle.unit_model.specs.Feed.{tester_of}
use Rattle.unit_sim.specs.Sims.{Sim, made_of as sim_made}
use Rattle.gateway_sim.specs.Feeding.{garbled as gate_garbled}
use Rattle.gateway_sim.specs.Gates.{Gate, gate_of, made_of as gate_made, redialed_gate}
use Rattle.gateway_sim.specs.Handling.{ticks, with_gateway}
use Rattle.gateway_sim.specs.Saving.{left_at}
use Rattle.vehicle_world.specs.Feeding.{state_fed}
use Rattle.gateway_sim.specs.declared.spec.GatewaySpec.{GatewaySpec}
use Rattle.vehicle_world.specs.Saving.{address_in, SavesState}
use Rattle.vehicle_world.specs.States.{State, answer_of, node_sim, vehicle_in}
use Rattle.vehicle_world.specs.declared.spec.VehicleSpec.{VehicleSpec}
use Rattle.vehicle_world.specs.declared.world.World.{World}

-- the vehicle, and what its simulators keep beside it
pub record Simulated : Type 0 where
  pub vehicle : Vehicle
  pub state : State

abbrev pub simulated : State → Simulated
simulated s = record { vehicle = vehicle_in s; state = s }

abbrev pub state_of : World → State
state_of w = record {
  gate = gate_of w.gate;
  sims = map node_sim w.units.items;
  held = map answer_of w.held.items;
}

abbrev pub world_of : World → Simulated
world_of w = simulated (state_of w)

-- an alive check at tick 0 is over
abbrev pub gate_in : VehicleSpec → GatewaySpec
gate_in spec = record {
  entity = spec.gateway.entity;
  gateway = left_at 0 spec.gateway.gateway;
  units = map address_in spec.units;
}

abbrev pub state_made : VehicleSpec → State
state_made spec = record {
  gate = gate_made (gate_in spec);
  sims = map sim_made spec.units;
  held = [];
}

abbrev pub made_of : VehicleSpec → Simulated
made_of spec = simulated (state_made spec)

-- nothing was done to it
pub record IsFresh (w : Simulated) : Type 0 where
  pub spec : VehicleSpec
  pub is : w ≡ made_of spec

-- ------ calls
abbrev pub fed : List ℕ → Simulated → Simulated
fed bytes w = simulated (state_fed bytes w.state)

-- of due bytes the first go, as many as there is room for
abbrev pub carried_on : ℕ → Gate → Gate
carried_on n g = with_gateway g (record g.gateway {
  ready = drop n g.gateway.ready;
  carried = g.gateway.carried ++ take n g.gateway.ready;
})

abbrev pub carries_on : ℕ → State → State
carries_on room s = record s { gate = carried_on (min room (length s.gate.gateway.ready)) s.gate }

-- what a tick raises of a unit, by the answers that are held
abbrev pub raised : ℕ → HeldAnswer → Sim → Sim
raised tick h s = record s { unit = raises tick h s.unit }

abbrev pub all_raised : ℕ → List HeldAnswer → List Sim → List Sim
all_raised tick [] sims = sims
all_raised tick (h ∷ hs) sims = all_raised tick hs (map (raised tick h) sims)

abbrev pub ticks_on : State → State
ticks_on s = record {
  gate = ticks (pending_of (s.gate.gateway.tick + 1) (tester_of s.gate.gateway) s.held) s.gate;
  sims = all_raised (s.gate.gateway.tick + 1) s.held s.sims;
  held = held_on (s.gate.gateway.tick + 1) s.held;
}

abbrev pub state_polled : ℕ → State → State
state_polled room s = if length s.gate.gateway.ready == 0 then ticks_on s else carries_on room s

abbrev pub polled : ℕ → Simulated → Simulated
polled room w = simulated (state_polled room w.state)

-- the tester received a piece that is none of the gateway's bytes
abbrev pub garbled : List ℕ → Simulated → Simulated
garbled piece w = simulated (record w.state { gate = gate_garbled piece w.state.gate })

abbrev pub state_redialed : State → State
state_redialed s = record s { gate = redialed_gate s.gate; held = [] }

abbrev pub redialed_world : Simulated → Simulated
redialed_world w = simulated (state_redialed w.state)

-- ------ what they are for the vehicle
-- a prefix was fed, and the connection is a new one
pub record FeedsBroken (bytes : List ℕ) (old new : Vehicle) : Type 0 where
  pub count : ℕ
  pub mid : Vehicle
  pub feeds : Feeds (take count bytes) old mid
  pub broken : new ≡ redialed mid

-- a tick, or a piece of 1 byte to as many as there was room for, which is the next due bytes
abbrev pub PolledTo : ℕ → List ℕ → Vehicle → Vehicle → Got → Type 0
PolledTo room out old new Quiet = Ticks old new
PolledTo room out old new (Bytes n) =
    (1 ≤ n) × (n ≤ room) × Carries (take n out) old new × IsPlain (take n out) old new

pub record Garbles (piece : List ℕ) (old new : Vehicle) : Type 0 where
  pub carries : Carries piece old new
  pub ready : new.gateway.ready ≡ old.gateway.ready

-- the spec of what it is now
abbrev pub Saves : Simulated → VehicleSpec → Type 0
Saves w spec = SavesState w.state spec

-- sending nothing does nothing
abbrev pub FeedsNothing : World → Type 0
FeedsNothing w = Feeds [] (world_of w).vehicle (world_of w).vehicle
