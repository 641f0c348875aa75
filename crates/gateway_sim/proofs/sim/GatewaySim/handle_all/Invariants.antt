use Rattle.std.proofs.Common.{◌≡◌, take}
use Rattle.gateway_sim.specs.Feeding.{frames_handled, orders_of}
use Rattle.gateway_sim.specs.Gates.{gate_of}
use Rattle.gateway_sim.proofs.sim.GatewaySim.handle_all.Given as goal

abbrev pub invariant-loop-i : goal.invariant-loop-i
invariant-loop-i l = (gate_of l.self ≡ frames_handled (take l.i l.fed.frames) (gate_of l.initial.self)) × (l.orders ≡ orders_of (take l.i l.fed.frames) (gate_of l.initial.self))
