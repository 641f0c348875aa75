use Rattle.std.proofs.Common.{sym, subst}
use Rattle.unit_session.proofs.Leads.{key_opens}
use Rattle.unit_session.proofs.onward.key.Goals as goal
use Rattle.unit_session.specs.Onward.{LeadsTo}
use Rattle.unit_session.specs.Session.{has_mark}
use Rattle.unit_session.specs.declared.stage.Stage.{Stage}
use Rattle.unit_session.specs.declared.stage.Stage.TheVariants.{Key}

pub returns : goal.returns
returns c = λ rest. subst (λ (s : Stage). LeadsTo c.args.unit.now (has_mark c.args.marks) (Key c.args.seed) rest s) (sym c.opened.ensures)
    (key_opens c.args.unit.now (has_mark c.args.marks) c.args.seed rest)
