use Rattle.std.proofs.Common.{sym, subst}
use Rattle.unit_session.proofs.onward.onward.Goals as goal
use Rattle.unit_session.specs.Onward.{LeadsTo}
use Rattle.unit_session.specs.Session.{has_mark}
use Rattle.unit_session.specs.declared.stage.Stage.{Stage}

pub returns-in-Ident : goal.returns-in-Ident
returns-in-Ident c =
    subst (λ (s : Stage). LeadsTo c.args.unit.now (has_mark c.args.marks) s c.args.rest.now c.ident.result) (sym c.in-Ident.is) (c.ident.ensures (has_mark c.args.marks))

pub returns-in-Program : goal.returns-in-Program
returns-in-Program c =
    subst (λ (s : Stage). LeadsTo c.args.unit.now (has_mark c.args.marks) s c.args.rest.now c.program.result) (sym c.in-Program.is) (c.program.ensures c.args.rest.now)

pub returns-in-Key : goal.returns-in-Key
returns-in-Key c =
    subst (λ (s : Stage). LeadsTo c.args.unit.now (has_mark c.args.marks) s c.args.rest.now c.key.result) (sym c.in-Key.is) (c.key.ensures c.args.rest.now)

pub returns-in-Download : goal.returns-in-Download
returns-in-Download c =
    subst (λ (s : Stage). LeadsTo c.args.unit.now (has_mark c.args.marks) s c.args.rest.now c.download.result) (sym c.in-Download.is) (c.download.ensures (has_mark c.args.marks))

pub returns-in-Block : goal.returns-in-Block
returns-in-Block c =
    subst (λ (s : Stage). LeadsTo c.args.unit.now (has_mark c.args.marks) s c.args.rest.now c.block.result) (sym c.in-Block.is) (c.block.ensures (has_mark c.args.marks) c.args.rest.now)

pub returns-in-Check : goal.returns-in-Check
returns-in-Check c =
    subst (λ (s : Stage). LeadsTo c.args.unit.now (has_mark c.args.marks) s c.args.rest.now c.check.result) (sym c.in-Check.is) (c.check.ensures c.args.rest.now)
