use Rattle.doip_frame.proofs.Again as again
use Rattle.doip_frame.proofs.laws.only_one.Goals as goal

pub returns : goal.returns
returns c = again.only_one
