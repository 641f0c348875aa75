use Rattle.std.proofs.Common.{length}
use Rattle.flash_plan.specs.Accepting.{first_task, has_same_address}
use Rattle.flash_plan.proofs.Tasks.{first_on}
use Rattle.flash_plan.proofs.naming.same_address.Goals as goal

pub loop-n-preserved : goal.loop-n-preserved
loop-n-preserved c =
    let ds = c.args.drafts.now in
    first_on (first_task ds (has_same_address ds)) c.loop-n.n (length ds) (has_same_address ds) c.has_same_address.result c.loop-n.invariant c.loop-n-test.true c.has_same_address.ensures c.if-has_same_address.false
