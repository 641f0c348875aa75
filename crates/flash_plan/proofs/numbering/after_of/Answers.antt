use Rattle.std.proofs.Common.{length}
use Rattle.flash_plan.specs.Accepting.{after_of}
use Rattle.flash_plan.specs.Numbering.{names_task}
use Rattle.flash_plan.proofs.Numbers.{numbers_on, numbers_end}
use Rattle.flash_plan.proofs.numbering.after_of.Goals as goal

pub loop-w-preserved : goal.loop-w-preserved
loop-w-preserved c =
    let ds = c.args.drafts.now in
    let d = c.args.draft.now in
    numbers_on (after_of ds d) c.loop-w.numbers c.push_if.new.numbers c.loop-w.w (length ds) (names_task ds d) c.names_task-is.result c.loop-w.invariant c.loop-w-test.true
    c.names_task-is.ensures c.in_ok-push_if.ensures

pub returns : goal.returns
returns c =
    let ds = c.args.drafts.now in
    let d = c.args.draft.now in
    numbers_end (after_of ds d) c.loop-w.numbers c.loop-w.w (length ds) (names_task ds d) c.loop-w.invariant c.loop-w-test.false
