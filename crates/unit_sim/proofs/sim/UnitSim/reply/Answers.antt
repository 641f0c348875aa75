use Rattle.unit_sim.specs.Sims.{sim_of}
use Rattle.unit_sim.proofs.Committing.{taken}
use Rattle.unit_sim.proofs.sim.UnitSim.reply.Goals as goal

pub returns : goal.returns
returns c = taken c.pop_front.result (sim_of c.args.self.now) c.pop_front.new.self.items c.pop_front.ensures.items c.pop_front.ensures.rest
