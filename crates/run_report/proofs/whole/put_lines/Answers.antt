use Rattle.std.proofs.Common.{◌<◌, length, arith}
use Rattle.run_report.proofs.Lines.{line_more}
use Rattle.run_report.proofs.whole.put_lines.Goals as goal

pub loop-n-preserved : goal.loop-n-preserved
loop-n-preserved c =
    let within : c.loop-n.n < length c.args.plan.now = omega (arith, c.loop-n-test.true, c.units-n-end.ensures) in
    line_more c.args.plan.now c.args.outcomes.now c.loop-n.n c.unit.result.now c.at.result.now c.args.out.now c.loop-n.out c.put_line.new.out
    within c.at.ensures c.unit.ensures c.loop-n.invariant c.in_ok-put_line.ensures
