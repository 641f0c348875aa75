use Rattle.doip_frame.proofs.Again as again
use Rattle.doip_frame.proofs.laws.read_again.Goals as goal

pub returns : goal.returns
returns c = again.read_again
