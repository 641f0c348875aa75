use Rattle.unit_session.proofs.Keeps.{ident_awaited}
use Rattle.unit_session.proofs.onward.wanted.Goals as goal

pub returns : goal.returns
returns c = ident_awaited c.args.unit.now c.args.number c.at.result.now c.at.ensures
