use Rattle.uds_codec.proofs.Written as written
use Rattle.uds_codec.proofs.laws.read_again.Goals as goal

pub returns : goal.returns
returns c = written.read_again
