use Rattle.uds_codec.proofs.Onward as onward
use Rattle.uds_codec.proofs.laws.beginnings.Goals as goal

pub returns : goal.returns
returns c = record { goes_on = onward.goes_on; only = onward.only }
