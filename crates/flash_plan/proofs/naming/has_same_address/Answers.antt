use Rattle.std.proofs.Common.{◌==◌}
use Rattle.flash_plan.specs.Accepting.{draft_of, has_same_address}
use Rattle.flash_plan.proofs.Tasks.{some_on, some_found}
use Rattle.flash_plan.proofs.naming.has_same_address.Goals as goal

pub returns-then-have_one_address : goal.returns-then-have_one_address
returns-then-have_one_address c =
    let ds = c.args.drafts.now in
    let n = c.args.n in
    some_found (has_same_address ds n) c.loop-m.m n (λ m. (draft_of ds m).address == (draft_of ds n).address) c.have_one_address.result c.loop-m.invariant c.loop-m-test.true c.have_one_address.ensures c.if-have_one_address.true

pub loop-m-preserved : goal.loop-m-preserved
loop-m-preserved c =
    let ds = c.args.drafts.now in
    let n = c.args.n in
    some_on (has_same_address ds n) c.loop-m.m n (λ m. (draft_of ds m).address == (draft_of ds n).address) c.have_one_address.result c.loop-m.invariant c.loop-m-test.true c.have_one_address.ensures c.if-have_one_address.false
