use Rattle.std.proofs.Common.{◌∙◌, ap, sym, Some}
use Rattle.unit_model.specs.Step.{raise_code}
use Rattle.gateway_sim.specs.declared.trouble.Answer.{Answer}
use Rattle.gateway_sim.specs.Gates.{gate_of, gateway_of}
use Rattle.gateway_sim.specs.Handling.{answered, with_gateway}
use Rattle.gateway_sim.proofs.sim.GatewaySim.answer.Goals as goal

pub returns-in_ok-say_activated-in-Accept-clause-ok : goal.returns-in_ok-say_activated-in-Accept-clause-ok
returns-in_ok-say_activated-in-Accept-clause-ok c =
    let said = c.in_ok-say_activated-in-Accept.ensures.ok in
    (λ i. record (said i) { gateway = record (said i).gateway { active = Some c.args.source } })
    ∙ ap (λ (a : Answer). with_gateway (gate_of c.args.self.now) (answered a c.args.source (gateway_of c.args.self.now))) (sym c.in-Accept.is)

pub returns-in_ok-say_activated-in-Deny-clause-ok : goal.returns-in_ok-say_activated-in-Deny-clause-ok
returns-in_ok-say_activated-in-Deny-clause-ok c =
    let said = c.in_ok-say_activated-in-Deny.ensures.ok in
    (λ i. record (gate_of c.say_activated-in-Deny.new.self) { gateway = record (gateway_of c.say_activated-in-Deny.new.self) { denied = c.raise_at.ensures i } })
    ∙ (λ i. record (said i) { gateway = record (said i).gateway { denied = raise_code c.in-Deny.code (said i).gateway.denied } })
    ∙ ap (λ (a : Answer). with_gateway (gate_of c.args.self.now) (answered a c.args.source (gateway_of c.args.self.now))) (sym c.in-Deny.is)
