use Rattle.std.proofs.Common.{sym, subst, ◌∙◌, arith}
use Rattle.unit_session.proofs.Leads.{ident_expected, ident_other}
use Rattle.unit_session.proofs.onward.ident.Goals as goal
use Rattle.unit_session.specs.Onward.{LeadsTo}
use Rattle.unit_session.specs.declared.stage.Stage.{Stage}
use Rattle.unit_session.specs.declared.stage.Stage.TheVariants.{Ident}

pub returns-then-is_expected : goal.returns-then-is_expected
returns-then-is_expected c = λ marks.
    ident_expected c.args.unit.now marks c.args.number c.at-wanted.result.now c.args.value.now c.at-wanted.ensures (sym c.is_expected.ensures ∙ c.if-is_expected.true) (omega (arith, c.requires.within))

pub returns-else-is_expected : goal.returns-else-is_expected
returns-else-is_expected c = λ marks. subst (λ (s : Stage). LeadsTo c.args.unit.now marks (Ident c.args.number) c.args.value.now s) (sym c.ended.ensures)
    (ident_other c.args.unit.now marks c.args.number c.at-wanted.result.now c.args.value.now c.at-wanted.ensures (sym c.is_expected.ensures ∙ c.if-is_expected.false))
