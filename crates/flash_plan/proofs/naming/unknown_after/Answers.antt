use Rattle.std.proofs.Common.{length}
use Rattle.flash_plan.specs.Accepting.{first_task, has_unknown}
use Rattle.flash_plan.proofs.Tasks.{first_on}
use Rattle.flash_plan.proofs.naming.unknown_after.Goals as goal

pub loop-n-preserved : goal.loop-n-preserved
loop-n-preserved c =
    let ds = c.args.drafts.now in
    first_on (first_task ds (has_unknown ds)) c.loop-n.n (length ds) (has_unknown ds) c.has_unknown.result c.loop-n.invariant c.loop-n-test.true c.has_unknown.ensures c.if-has_unknown.false
