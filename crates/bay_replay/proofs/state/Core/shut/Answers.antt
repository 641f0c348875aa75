use Rattle.bay_replay.proofs.Settling.{down_body, are_of}
use Rattle.bay_replay.proofs.state.Core.shut.Goals as goal

pub returns : goal.returns
returns g c = down_body c.args.plan.now c.args.self.now g.told c.shut.new.self c.lose.new.self c.requires (c.shut.ensures.shows g.told.core.link c.requires.link) c.shut.ensures.of c.lose.ensures
