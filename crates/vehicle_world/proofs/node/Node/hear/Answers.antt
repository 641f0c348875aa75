use Rattle.unit_sim.specs.Sims.{sim_of}
use Rattle.vehicle_world.proofs.Stepping.{taken}
use Rattle.vehicle_world.proofs.node.Node.hear.Goals as goal

pub returns-clause-step : goal.returns-clause-step
returns-clause-step c =
    taken (sim_of c.args.self.now.sim) _ (sim_of c.replies.new.self) c.args.body.now c.args.tick _ c.args.self.now.calm c.in_ok-hear.ensures.step c.replies.ensures.all c.replies.ensures.none
