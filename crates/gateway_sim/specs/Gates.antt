-- A simulated gateway: what it stands for.
use Rattle.std.specs.Prelude.{ℕ, false, List, [], drop, Option, None, Some, slice_index, if◌then◌else◌}
use Rattle.unit_model.specs.Vehicle.{Gateway}
use Rattle.gateway_sim.specs.declared.sim.GatewaySim.{GatewaySim}
use Rattle.gateway_sim.specs.declared.spec.GatewayTrouble.{GatewayTrouble}
use Rattle.gateway_sim.specs.declared.spec.GatewaySpec.{GatewaySpec}
use Rattle.gateway_sim.specs.Acting.{alive_of}
use Rattle.gateway_sim.specs.Fronts.{is_deaf, unfinished_of}

-- what is held of a frame: None where nothing more of the connection is looked at
abbrev pub front_of : Gateway → Option (List ℕ)
front_of h = if h.deaf then None else Some h.unfinished

-- the gateway, behind which no answer is held
abbrev pub gateway_of : GatewaySim → Gateway
gateway_of g = record {
  entity = g.entity;
  active = g.active;
  deaf = is_deaf g.deframer;
  unfinished = unfinished_of g.deframer;
  ready = drop g.start g.ready.items;
  later = g.later.items;
  held = [];
  carried = g.carried.items;
  tick = g.tick;
  alive = alive_of g.troubles.items;
  denied = λ code. slice_index g.denied code;
  silent = g.silent;
}

-- troubles: those that remain. units: the addresses of the units behind it.
pub record Gate : Type 0 where
  pub gateway : Gateway
  pub troubles : List GatewayTrouble
  pub units : List ℕ

abbrev pub gate_of : GatewaySim → Gate
gate_of g = record { gateway = gateway_of g; troubles = g.troubles.items; units = g.units }

abbrev pub made_of : GatewaySpec → Gate
made_of spec = record {
  gateway = record {
    entity = spec.entity;
    active = None;
    deaf = false;
    unfinished = [];
    ready = [];
    later = [];
    held = [];
    carried = [];
    tick = 0;
    alive = alive_of spec.gateway;
    denied = λ code. 0;
    silent = 0;
  };
  troubles = spec.gateway;
  units = spec.units;
}

-- a new connection
abbrev pub redialed_gate : Gate → Gate
redialed_gate g = record g {
  gateway =
      record g.gateway {
        active = None;
        deaf = false;
        unfinished = [];
        ready = [];
        later = [];
        held = [];
        carried = [];
      };
}
