use Rattle.link_law.proofs.Following.{link_follows}
use Rattle.link_law.proofs.laws.the_link_follows_from_its_events.Goals as goal

pub returns : goal.returns
returns c = link_follows
