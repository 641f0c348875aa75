use Rattle.std.proofs.Common.{sym, subst, ◌∙◌}
use Rattle.unit_session.proofs.Leads.{seed_opens}
use Rattle.unit_session.proofs.onward.seed.Goals as goal
use Rattle.unit_session.specs.Onward.{LeadsTo}
use Rattle.unit_session.specs.Session.{has_mark}
use Rattle.unit_session.specs.declared.stage.Stage.{Stage}
use Rattle.unit_session.specs.declared.stage.Stage.TheVariants.{Seed}

pub returns-then-is_zero : goal.returns-then-is_zero
returns-then-is_zero c = subst (λ (s : Stage). LeadsTo c.args.unit.now (has_mark c.args.marks) Seed c.args.seed.now s) (sym c.opened.ensures)
    (seed_opens c.args.unit.now (has_mark c.args.marks) c.args.seed.now (sym c.is_zero.ensures ∙ c.if-is_zero.true))
