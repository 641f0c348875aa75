use Rattle.std.proofs.Common.{◌∙◌}
use Rattle.unit_sim.proofs.Committing.{silent}
use Rattle.unit_sim.proofs.sim.UnitSim.new.Goals as goal

pub returns : goal.returns
returns c = λ i. record {
  unit = record (c.in_ok-new.ensures i) { counts = c.new-2.ensures i };
  troubles = (c.in_ok-copied.ensures ∙ c.as_slice.ensures) i;
  waiting = c.new-3.ensures.items i;
  services = silent 256 i;
}
