use Rattle.std.proofs.Common.{arith}
use Rattle.flash_bay.proofs.Found.{after_begun, after_complete, after_mark, on_ok}
use Rattle.flash_journal.specs.Kept.{has_entry}
use Rattle.flash_bay.proofs.starting.list_unit.Goals as goal

pub loop-segment-init : goal.loop-segment-init
loop-segment-init c = after_begun c.args.all.now c.list_one.new.all c.args.unit (has_entry c.args.journal.now) c.requires.so_far c.in_ok-list_one.ensures

pub loop-segment-preserved : goal.loop-segment-preserved
loop-segment-preserved c = after_mark c.loop-segment.all c.list_one-in-loop-segment.new.all c.args.unit c.loop-segment.segment (has_entry c.args.journal.now) c.loop-segment.invariant c.in_ok-list_one-2.ensures

pub returns : goal.returns
returns c =
    on_ok c.list_one-2.result c.list_one-2.ensures (λ more.
    after_complete c.loop-segment.all c.list_one-2.new.all c.args.unit c.loop-segment.segment (has_entry c.args.journal.now) (λ k le. c.requires.past k (omega (arith, le, c.loop-segment-test.false))) c.loop-segment.invariant more)
