use Rattle.rec_text.proofs.Wide.{all_small}
use Rattle.rec_text.proofs.lanes.are_small.Goals as goal

pub returns : goal.returns
returns c e k = all_small c.args.v c.fits-v.0 e k
