use Rattle.gateway_sim.specs.Gates.{gate_of}
use Rattle.vehicle_world.proofs.Queued.{queue_on, cleared_on}
use Rattle.vehicle_world.proofs.world.queue_all.Goals as goal

pub loop-one-preserved : goal.loop-one-preserved
loop-one-preserved c = record {
  queued = queue_on c.args.out.now c.loop-one.one-index c.one-item.result c.as_slice.result.now (gate_of c.loop-one.gate) (gate_of c.queue.new.self) _ c.loop-one-test.true c.one-item.is c.as_slice.ensures c.loop-one.invariant.queued c.in_ok-queue.ensures.ok;
  cleared = cleared_on c.one-item.result.unit c.one-item.result.due c.as_slice.result.now (gate_of c.loop-one.gate) (gate_of c.queue.new.self) (gate_of c.args.gate.now) c.loop-one.invariant.cleared c.in_ok-queue.ensures.ok;
}
