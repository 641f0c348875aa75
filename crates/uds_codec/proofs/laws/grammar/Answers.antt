use Rattle.uds_codec.proofs.Found.{found, only}
use Rattle.uds_codec.proofs.laws.grammar.Goals as goal

pub returns : goal.returns
returns c = record { spells = found; only = only }
