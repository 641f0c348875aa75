use Rattle.std.proofs.Common.{length}
use Rattle.flash_plan.specs.Accepting.{first_task, has_same_name}
use Rattle.flash_plan.proofs.Tasks.{first_on}
use Rattle.flash_plan.proofs.naming.same_name.Goals as goal

pub loop-n-preserved : goal.loop-n-preserved
loop-n-preserved c =
    let ds = c.args.drafts.now in
    first_on (first_task ds (has_same_name ds)) c.loop-n.n (length ds) (has_same_name ds) c.has_same_name.result c.loop-n.invariant c.loop-n-test.true c.has_same_name.ensures c.if-has_same_name.false
