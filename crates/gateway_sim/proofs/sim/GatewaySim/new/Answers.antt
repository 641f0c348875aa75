use Rattle.std.proofs.Common.{◌∙◌, drop}
use Rattle.gateway_sim.specs.Acting.{alive_of}
use Rattle.gateway_sim.specs.Fronts.{is_deaf, unfinished_of}
use Rattle.gateway_sim.specs.Gates.{made_of}
use Rattle.gateway_sim.proofs.Counts.{zeros}
use Rattle.gateway_sim.proofs.sim.GatewaySim.new.Goals as goal

pub returns : goal.returns
returns c =
    let troubles = c.in_ok-from_slice-2.ensures.items ∙ c.as_slice-2.ensures in
    let units = c.from_vec.ensures ∙ c.in_ok-from_slice.ensures.items ∙ c.as_slice.ensures in
    λ i. record {
      gateway = record (made_of c.args.spec.now).gateway {
        deaf = is_deaf (c.new.ensures i);
        unfinished = unfinished_of (c.new.ensures i);
        ready = drop 0 (c.new-2.ensures.items i);
        later = c.new-3.ensures.items i;
        carried = c.new-4.ensures.items i;
        alive = alive_of (troubles i);
        denied = zeros 256 i;
      };
      troubles = troubles i;
      units = units i;
    }
