use Rattle.std.proofs.Common.{sym, ◌∙◌, ap}
use Rattle.flash_plan.specs.declared.unit.UnitPlan.{UnitPlan}
use Rattle.flash_plan.proofs.Marks.{open_is_of}
use Rattle.flash_plan.proofs.cycle.open_of.Goals as goal

pub returns-then-is_reached : goal.returns-then-is_reached
returns-then-is_reached c =
    open_is_of c.args.units.now c.args.n c.args.marks.now c.args.u c.index-units-u.result c.as_slice.result.now c.is_reached.result c.first_open.result
    c.requires c.index-units-u.is (c.as_slice.ensures ∙ ap (λ (x : UnitPlan). x.after) (sym c.index-units-u.is)) c.is_reached.ensures c.if-is_reached.true c.first_open.ensures
