use Rattle.std.proofs.Common.{◌≤◌, length, sym, arith}
use Rattle.std.proofs.lemmas.List.{append-nil}
use Rattle.run_report.proofs.Lines.{nth_plan-past}
use Rattle.run_report.proofs.text.put_name.Goals as goal

pub returns-else-n-units : goal.returns-else-n-units
returns-else-n-units c =
    let past : length c.args.plan.now ≤ c.args.n = omega (arith, c.if-n-units.false, c.units.ensures) in
    rw (nth_plan-past c.args.plan.now c.args.n past) (sym (append-nil c.args.out.now))
