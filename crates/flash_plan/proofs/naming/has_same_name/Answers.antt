use Rattle.std.proofs.Common.{bytes_eq}
use Rattle.flash_plan.specs.Accepting.{draft_of, has_same_name}
use Rattle.flash_plan.proofs.Tasks.{some_on, some_found}
use Rattle.flash_plan.proofs.naming.has_same_name.Goals as goal

pub returns-then-have_one_name : goal.returns-then-have_one_name
returns-then-have_one_name c =
    let ds = c.args.drafts.now in
    let n = c.args.n in
    some_found (has_same_name ds n) c.loop-m.m n (λ m. bytes_eq (draft_of ds m).name (draft_of ds n).name) c.have_one_name.result c.loop-m.invariant c.loop-m-test.true c.have_one_name.ensures c.if-have_one_name.true

pub loop-m-preserved : goal.loop-m-preserved
loop-m-preserved c =
    let ds = c.args.drafts.now in
    let n = c.args.n in
    some_on (has_same_name ds n) c.loop-m.m n (λ m. bytes_eq (draft_of ds m).name (draft_of ds n).name) c.have_one_name.result c.loop-m.invariant c.loop-m-test.true c.have_one_name.ensures c.if-have_one_name.false
