use Rattle.unit_sim.proofs.Numbered.{remain, first_acts}
use Rattle.unit_sim.proofs.laws.troubles_in_turn.Goals as goal

pub returns : goal.returns
returns c = record { remain = remain; acts = first_acts }
