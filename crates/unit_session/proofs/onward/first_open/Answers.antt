use Rattle.std.proofs.Common.{sym, ◌∙◌, arith}
use Rattle.unit_session.specs.Session.{has_mark}
use Rattle.unit_session.proofs.Leads.{open_here, open_later, open_none}
use Rattle.unit_session.proofs.onward.first_open.Goals as goal

pub returns-then-not-has : goal.returns-then-not-has
returns-then-not-has c =
    sym (open_here c.args.unit.now (has_mark c.args.marks) c.loop-n.n (omega (arith, c.len-n-end.ensures)) (sym c.has.ensures ∙ c.if-not-has.true)) ∙ c.loop-n.invariant

pub loop-n-preserved : goal.loop-n-preserved
loop-n-preserved c =
    sym (open_later c.args.unit.now (has_mark c.args.marks) c.loop-n.n (omega (arith, c.len-n-end.ensures)) (sym c.has.ensures ∙ c.if-not-has.false)) ∙ c.loop-n.invariant

pub returns : goal.returns
returns c = sym (open_none c.args.unit.now (has_mark c.args.marks) c.loop-n.n (omega (arith, c.len-n-end.ensures))) ∙ c.loop-n.invariant
