use Rattle.std.proofs.Common.{arith}
use Rattle.std.specs.List.{list_any}
use Rattle.flash_plan.specs.Accepting.{is_unknown}
use Rattle.flash_plan.proofs.Tasks.{any_on, any_found, item_read}
use Rattle.flash_plan.proofs.naming.are_unknown.Goals as goal

pub returns-then-is_unknown : goal.returns-then-is_unknown
returns-then-is_unknown c = any_found (list_any (is_unknown c.args.drafts.now) c.args.names.now) (is_unknown c.args.drafts.now) c.args.names.now c.loop-i.i c.at.result.now c.is_unknown.result c.loop-i.invariant (omega (arith, c.loop-i-test.true, c.len-i-end.ensures)) (item_read c.args.names.now c.loop-i.i c.at.result.now c.at.ensures) c.is_unknown.ensures c.if-is_unknown.true

pub loop-i-preserved : goal.loop-i-preserved
loop-i-preserved c = any_on (list_any (is_unknown c.args.drafts.now) c.args.names.now) (is_unknown c.args.drafts.now) c.args.names.now c.loop-i.i c.at.result.now c.is_unknown.result c.loop-i.invariant (omega (arith, c.loop-i-test.true, c.len-i-end.ensures)) (item_read c.args.names.now c.loop-i.i c.at.result.now c.at.ensures) c.is_unknown.ensures c.if-is_unknown.false
