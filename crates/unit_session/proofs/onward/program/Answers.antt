use Rattle.std.proofs.Common.{sym, subst}
use Rattle.unit_session.proofs.Leads.{program_opens}
use Rattle.unit_session.proofs.onward.program.Goals as goal
use Rattle.unit_session.specs.Onward.{LeadsTo}
use Rattle.unit_session.specs.Session.{has_mark}
use Rattle.unit_session.specs.declared.stage.Stage.{Stage}
use Rattle.unit_session.specs.declared.stage.Stage.TheVariants.{Program}

pub returns-in-Free : goal.returns-in-Free
returns-in-Free c = λ rest. subst (λ (s : Stage). LeadsTo c.args.unit.now (has_mark c.args.marks) Program rest s) (sym c.opened.ensures)
    (program_opens c.args.unit.now (has_mark c.args.marks) rest c.in-Free.is)
