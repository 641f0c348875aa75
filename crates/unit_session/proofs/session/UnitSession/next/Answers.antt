use Rattle.std.proofs.Common.{sym, ◌∙◌, arith}
use Rattle.run_model.specs.Script.{ask_at}
use Rattle.unit_session.specs.Session.{asked, place_at}
use Rattle.unit_session.proofs.Keeps.{ident_sends}
use Rattle.unit_session.proofs.session.UnitSession.next.Goals as goal

pub returns-then-from-len : goal.returns-then-from-len
returns-then-from-len c = sym ((λ i. asked (c.if-self.false i) (ask_at c.args.unit.now (place_at c.args.unit.now (c.in-Ident.is i)))) ∙ ident_sends c.args.unit.now c.in-Ident.number (omega (arith, c.if-from-len.true, c.len.ensures, c.from.ensures)))
