use Rattle.unit_model.specs.Running.{calm}
use Rattle.unit_sim.proofs.Counts.{zeros}
use Rattle.unit_sim.proofs.tally.Tally.new.Goals as goal

pub returns : goal.returns
returns c = λ i. record calm { refused = zeros 256 i; nacked = zeros 256 i }
