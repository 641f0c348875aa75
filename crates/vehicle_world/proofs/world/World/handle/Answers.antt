use Rattle.std.proofs.Common.{◌∙◌, map, sym}
use Rattle.gateway_sim.specs.Gates.{gate_of}
use Rattle.gateway_sim.specs.Handling.{Heard, Nothing, Refused, sent_of}
use Rattle.vehicle_world.specs.States.{is_there, node_sim}
use Rattle.vehicle_world.specs.Worlds.{state_of}
use Rattle.vehicle_world.proofs.Calling.{heard_part, map_err, map_ok, sent_handled}
use Rattle.vehicle_world.proofs.world.World.handle.Goals as goal

pub returns-in-Nothing-clause-handles : goal.returns-in-Nothing-clause-handles
returns-in-Nothing-clause-handles c =
    let s = state_of c.args.self.now in
    let known = c.is_there-known.ensures ∙ (λ i. is_there (map node_sim (c.deref.ensures.value i)) (c.target_of.ensures i)) in
    let step = (λ i. (gate_of c.handle.new.self, sent_of (sym c.in-Nothing.is i))) ∙ c.in_ok-handle.ensures.ok in
    sent_handled c.args.frame.now s c.is_there-known.result (gate_of c.handle.new.self) Nothing known step tt

pub returns-in-Refused-clause-handles : goal.returns-in-Refused-clause-handles
returns-in-Refused-clause-handles c =
    let s = state_of c.args.self.now in
    let known = c.is_there-known.ensures ∙ (λ i. is_there (map node_sim (c.deref.ensures.value i)) (c.target_of.ensures i)) in
    let step = (λ i. (gate_of c.handle.new.self, sent_of (sym c.in-Refused.is i))) ∙ c.in_ok-handle.ensures.ok in
    sent_handled c.args.frame.now s c.is_there-known.result (gate_of c.handle.new.self) (Refused c.in-Refused.unit c.in-Refused.code) known step tt

pub returns-in-Heard-clause-handles : goal.returns-in-Heard-clause-handles
returns-in-Heard-clause-handles c =
    let s = state_of c.args.self.now in
    let known = c.is_there-known.ensures ∙ (λ i. is_there (map node_sim (c.deref.ensures.value i)) (c.target_of.ensures i)) in
    let step = (λ i. (gate_of c.handle.new.self, sent_of (sym c.in-Heard.is i))) ∙ c.in_ok-handle.ensures.ok in
    map_ok c.hear.result _ _ (sent_handled c.args.frame.now s c.is_there-known.result (gate_of c.handle.new.self) (Heard c.in-Heard.unit c.in-Heard.body.now) known step) c.hear.ensures.step

pub returns-in-Heard-clause-err : goal.returns-in-Heard-clause-err
returns-in-Heard-clause-err c =
    let s = state_of c.args.self.now in
    let known = c.is_there-known.ensures ∙ (λ i. is_there (map node_sim (c.deref.ensures.value i)) (c.target_of.ensures i)) in
    let step = (λ i. (gate_of c.handle.new.self, sent_of (sym c.in-Heard.is i))) ∙ c.in_ok-handle.ensures.ok in
    map_err c.hear.result _ _ (heard_part c.args.frame.now s c.is_there-known.result (gate_of c.handle.new.self) c.in-Heard.unit c.in-Heard.body.now _ known step) c.hear.ensures.err
