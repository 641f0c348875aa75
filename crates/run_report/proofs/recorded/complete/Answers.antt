use Rattle.std.proofs.Common.{◌<◌, length, arith}
use Rattle.run_report.specs.Recorded.{is_among}
use Rattle.run_report.proofs.Standing.{count_step}
use Rattle.run_report.proofs.recorded.complete.Goals as goal

pub loop-n-preserved : goal.loop-n-preserved
loop-n-preserved c =
    let within : c.loop-n.n < length c.args.plan.now = omega (arith, c.loop-n-test.true, c.units-n-end.ensures) in
    record {
      some = omega (arith, c.loop-n.invariant.some, c.one_complete-count.ensures.small);
      rest = count_step (is_among c.args.entries.now) c.args.plan.now c.loop-n.n c.loop-n.count c.one_complete-count.result _ within c.loop-n.invariant.rest c.one_complete-count.ensures.is;
    }
