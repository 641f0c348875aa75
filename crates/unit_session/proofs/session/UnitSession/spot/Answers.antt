use Rattle.unit_session.proofs.Spotting.{spot_like}
use Rattle.unit_session.proofs.session.UnitSession.spot.Goals as goal

pub returns : goal.returns
returns c = λ u ok is. spot_like u c.args.self.now.stage c.spot_at.result c.spot_at.ensures ok is.stage
