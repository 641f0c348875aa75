use Rattle.std.proofs.Common.{bytes_eq}
use Rattle.flash_plan.specs.declared.unit.Draft.{Draft}
use Rattle.flash_plan.specs.Accepting.{is_task}
use Rattle.flash_plan.proofs.Tasks.{any_on, any_found}
use Rattle.flash_plan.proofs.naming.is_task.Goals as goal

pub returns-then-has_name : goal.returns-then-has_name
returns-then-has_name c = any_found (is_task c.args.drafts.now c.args.name.now) (λ (d : Draft). bytes_eq d.name c.args.name.now) c.args.drafts.now c.loop-n.n c.index-drafts-n.result c.has_name.result c.loop-n.invariant c.loop-n-test.true c.index-drafts-n.is c.has_name.ensures c.if-has_name.true

pub loop-n-preserved : goal.loop-n-preserved
loop-n-preserved c = any_on (is_task c.args.drafts.now c.args.name.now) (λ (d : Draft). bytes_eq d.name c.args.name.now) c.args.drafts.now c.loop-n.n c.index-drafts-n.result c.has_name.result c.loop-n.invariant c.loop-n-test.true c.index-drafts-n.is c.has_name.ensures c.if-has_name.false
