use Rattle.std.proofs.Common.{rules, ◌≡◌, None}
use Rattle.flash_plan.specs.Cycles.{next_open}
use Rattle.flash_plan.proofs.Marks.{open_on}
use Rattle.flash_plan.proofs.cycle.next_open.Goals as goal

pub loop-u-preserved : goal.loop-u-preserved
loop-u-preserved c =
    let none : c.open_of.result ≡ None = search rules in
    open_on (next_open c.args.units.now c.args.n c.args.marks.now) c.args.units.now c.args.n c.args.marks.now c.loop-u.u c.open_of.result
    c.loop-u.invariant c.loop-u-test.true c.open_of.ensures none
