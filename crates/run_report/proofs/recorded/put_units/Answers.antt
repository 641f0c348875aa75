use Rattle.std.proofs.Common.{◌<◌, length, arith}
use Rattle.run_report.specs.Recorded.{is_among}
use Rattle.run_report.proofs.Standing.{lines_step}
use Rattle.run_report.proofs.recorded.put_units.Goals as goal

pub loop-n-preserved : goal.loop-n-preserved
loop-n-preserved c =
    let within : c.loop-n.n < length c.args.plan.now = omega (arith, c.loop-n-test.true, c.units-n-end.ensures) in
    lines_step (is_among c.args.entries.now) c.args.plan.now c.loop-n.n c.unit.result.now c.args.out.now c.loop-n.out c.put_recorded.new.out
    within c.unit.ensures c.loop-n.invariant c.in_ok-put_recorded.ensures
