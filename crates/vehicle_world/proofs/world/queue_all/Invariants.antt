use Rattle.std.proofs.Common.{◌≡◌, drop, map}
use Rattle.gateway_sim.specs.Gates.{gate_of, redialed_gate}
use Rattle.vehicle_world.specs.Feeding.{all_queued}
use Rattle.vehicle_world.specs.States.{reply_of}
use Rattle.vehicle_world.proofs.world.queue_all.Given as goal

abbrev pub invariant-loop-one : goal.invariant-loop-one
invariant-loop-one l = record {
  queued : all_queued (map reply_of (drop l.one-index l.out)) (gate_of l.gate) ≡ all_queued (map reply_of l.out) (gate_of l.initial.gate);
  cleared : redialed_gate (gate_of l.gate) ≡ redialed_gate (gate_of l.initial.gate);
}
