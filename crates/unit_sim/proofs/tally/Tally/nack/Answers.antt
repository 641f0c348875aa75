use Rattle.unit_sim.specs.Tallies.{counts_of}
use Rattle.unit_sim.proofs.tally.Tally.nack.Goals as goal

pub returns : goal.returns
returns c = λ i. record (counts_of c.args.self.now) { nacked = c.raise_at.ensures i }
