use Rattle.std.proofs.Common.{◌∙◌, ap, refl, length, arith}
use Rattle.gateway_sim.specs.Saving.{left_at}
use Rattle.gateway_sim.specs.Troubles.{all_troubles}
use Rattle.gateway_sim.proofs.Left.{all_in_range, no_more}
use Rattle.gateway_sim.proofs.sim.GatewaySim.spec.Goals as goal

pub returns : goal.returns
returns c =
    let s = c.args.self.now in
    let gateway = c.in_ok-remaining.ensures ∙ ap (left_at s.tick) c.as_slice.ensures.value in
    record {
      is = record {
        troubles = ap all_troubles gateway ∙ all_in_range s.tick s.troubles.items s.in_range;
        few = omega (arith, ap length gateway, no_more s.tick s.troubles.items, s.few);
      };
      entity = refl;
      gateway = gateway;
      units = c.from_vec.ensures ∙ c.in_ok-from_slice.ensures.items ∙ c.as_slice-2.ensures;
    }
