-- A simulated vehicle without troubles, of which nothing has departed.
use Rattle.std.specs.Prelude.{◌≡◌, ℕ, List, [], map}
use Rattle.flash_base.specs.Lists.{Each}
use Rattle.gateway_sim.specs.Gates.{Gate}
use Rattle.unit_model.specs.Running.{calm}
use Rattle.unit_model.specs.Unit.{ControlUnit}
use Rattle.unit_sim.specs.Sims.{Sim}
use Rattle.vehicle_world.specs.States.{State}

-- no trouble is left, and none was counted
pub record IsCalmSim (s : Sim) : Type 0 where
  pub troubles : s.troubles ≡ []
  pub waiting : s.waiting ≡ []
  pub counts : s.unit.counts ≡ calm

pub record IsCalmGate (g : Gate) : Type 0 where
  pub troubles : g.troubles ≡ []
  pub denied : (code : ℕ) → g.gateway.denied code ≡ 0
  pub silent : g.gateway.silent ≡ 0

pub record IsCalmState (s : State) : Type 0 where
  pub gate : IsCalmGate s.gate
  pub sims : Each IsCalmSim s.sims
  pub held : s.held ≡ []

-- ------ the units behind the gateway
abbrev pub sim_address : Sim → ℕ
sim_address s = s.unit.address

abbrev pub sim_addresses : List Sim → List ℕ
sim_addresses ss = map sim_address ss

abbrev pub unit_address : ControlUnit → ℕ
unit_address u = u.address

abbrev pub unit_addresses : List ControlUnit → List ℕ
unit_addresses us = map unit_address us
