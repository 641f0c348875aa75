use Rattle.std.proofs.Common.{sym, ap}
use Rattle.run_model.specs.Script.{bytes_at}
use Rattle.unit_session.proofs.Forms.{ok_is}
use Rattle.unit_session.proofs.Leads.{ident_place}
use Rattle.unit_session.proofs.requests.ident.Goals as goal

pub returns : goal.returns
returns c = ok_is c.read_id.result _ _ c.read_id.ensures (sym (ap (bytes_at c.args.unit.now) (ident_place c.args.unit.now c.args.number c.at.result.now c.at.ensures)))
