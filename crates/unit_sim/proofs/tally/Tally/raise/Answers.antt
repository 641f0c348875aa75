use Rattle.unit_sim.specs.Tallies.{counts_of}
use Rattle.unit_sim.proofs.tally.Tally.raise.Goals as goal

pub returns-in-Refused : goal.returns-in-Refused
returns-in-Refused c = rw c.in-Refused.is (λ i. record (counts_of c.args.self.now) { refused = c.raise_at.ensures i })
