use Rattle.std.proofs.Common.{◌∙◌, ap, length, arith}
use Rattle.gateway_sim.specs.Acting.{alive_of}
use Rattle.gateway_sim.specs.Gates.{gateway_of}
use Rattle.gateway_sim.specs.Troubles.{all_troubles}
use Rattle.gateway_sim.proofs.Remaining.{alive_activation, left_activation, few_activation}
use Rattle.gateway_sim.proofs.sim.GatewaySim.count_activation.Goals as goal

pub invariant_of-self : goal.invariant_of-self
invariant_of-self c =
    let s = c.args.self.now in
    record {
      order = s.order;
      partial = s.partial;
      in_range = ap all_troubles c.count_activation.ensures ∙ left_activation s.troubles.items s.in_range;
      few = omega (arith, ap length c.count_activation.ensures, few_activation s.troubles.items, s.few);
    }

pub returns : goal.returns
returns c =
    let s = c.args.self.now in
    let alive = ap alive_of c.count_activation.ensures ∙ alive_activation s.troubles.items in
    λ i. record { gateway = record (gateway_of s) { alive = alive i }; troubles = c.count_activation.ensures i; units = s.units }
