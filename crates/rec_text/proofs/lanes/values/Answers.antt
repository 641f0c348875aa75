use Rattle.rec_text.proofs.Wide.{values_are}
use Rattle.rec_text.proofs.lanes.values.Goals as goal

pub returns : goal.returns
returns c = values_are 32 c.args.v c.fits-v.0
