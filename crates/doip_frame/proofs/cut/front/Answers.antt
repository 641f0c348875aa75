use Rattle.doip_frame.proofs.Looks.{cuts}
use Rattle.doip_frame.proofs.cut.front.Goals as goal

pub returns : goal.returns
returns c = rw c.seen.ensures (cuts c.args.stream.now)
