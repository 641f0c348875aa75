use Rattle.link_law.proofs.Stopping.{stop_follows}
use Rattle.link_law.proofs.laws.the_stop_follows_from_the_events.Goals as goal

pub returns : goal.returns
returns c = stop_follows
