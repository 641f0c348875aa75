use Rattle.std.proofs.Common.{length}
use Rattle.flash_plan.specs.Accepting.{first_task, has_wide}
use Rattle.flash_plan.specs.Plan.{IsWidth}
use Rattle.flash_plan.proofs.Tasks.{first_on, each_draft}
use Rattle.flash_plan.proofs.naming.too_wide.Goals as goal

pub has_wide-requires-clause-width : goal.has_wide-requires-clause-width
has_wide-requires-clause-width c = each_draft (λ d. IsWidth d.width) c.args.drafts.now c.loop-n.n c.requires.widths c.loop-n-test.true

pub loop-n-preserved : goal.loop-n-preserved
loop-n-preserved c =
    let ds = c.args.drafts.now in
    first_on (first_task ds (has_wide ds)) c.loop-n.n (length ds) (has_wide ds) c.has_wide.result c.loop-n.invariant c.loop-n-test.true c.has_wide.ensures c.if-has_wide.false
