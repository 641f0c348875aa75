use Rattle.gateway_sim.proofs.Held.{held_either}
use Rattle.gateway_sim.proofs.sim.GatewaySim.cut.Goals as goal

pub invariant_of-self : goal.invariant_of-self
invariant_of-self c = record {
  order = c.args.self.now.order;
  partial = held_either c.feed.result c.feed.new.self c.args.self.now.deframer c.args.bytes.now c.args.self.now.partial c.feed.ensures.held c.feed.ensures.err;
  in_range = c.args.self.now.in_range;
  few = c.args.self.now.few;
}
