use Rattle.std.specs.List.{list_any}
use Rattle.flash_plan.specs.Accepting.{is_wide}
use Rattle.flash_plan.proofs.Tasks.{any_on, any_found}
use Rattle.flash_plan.proofs.naming.are_wide.Goals as goal

pub returns-then-is_wide : goal.returns-then-is_wide
returns-then-is_wide c = any_found (list_any (is_wide c.args.width) c.args.segments.now) (is_wide c.args.width) c.args.segments.now c.loop-i.i c.index-segments-i.result c.is_wide.result c.loop-i.invariant c.loop-i-test.true c.index-segments-i.is c.is_wide.ensures c.if-is_wide.true

pub loop-i-preserved : goal.loop-i-preserved
loop-i-preserved c = any_on (list_any (is_wide c.args.width) c.args.segments.now) (is_wide c.args.width) c.args.segments.now c.loop-i.i c.index-segments-i.result c.is_wide.result c.loop-i.invariant c.loop-i-test.true c.index-segments-i.is c.is_wide.ensures c.if-is_wide.false
