use Rattle.std.proofs.Common.{◌∙◌}
use Rattle.doip_frame.specs.Frame.{message_bytes}
use Rattle.gateway_sim.specs.Gates.{gate_of}
use Rattle.gateway_sim.specs.Handling.{says}
use Rattle.gateway_sim.proofs.Ready.{now_queued, on_ok}
use Rattle.gateway_sim.proofs.sim.GatewaySim.queue.Goals as goal

pub returns-then-due-self-clause-ok : goal.returns-then-due-self-clause-ok
returns-then-due-self-clause-ok c =
    on_ok c.say.result _ _ _
    ((λ i. says (gate_of c.args.self.now) (message_bytes c.args.unit (c.unwrap_or.ensures i) (c.in_ok-from_slice.ensures i))) ∙ now_queued (gate_of c.args.self.now) c.args.unit c.args.due c.args.body.now c.if-due-self.true)
    c.say.ensures.ok
