use Rattle.std.proofs.Common.{◌<◌, length, arith, ◌∙◌, ap}
use Rattle.flash_plan.specs.Plan.{size_of}
use Rattle.run_report.proofs.Texts.{total_step}
use Rattle.run_report.proofs.checking.total_of.Goals as goal

pub loop-n-preserved : goal.loop-n-preserved
loop-n-preserved c =
    let within : c.loop-n.n < length c.args.plan.now = omega (arith, c.loop-n-test.true, c.units-n-end.ensures) in
    total_step c.args.plan.now c.loop-n.n c.loop-n.sum c.size_of-sum.result _ within c.loop-n.invariant
    (c.size_of-sum.ensures ∙ ap size_of c.as_slice.ensures ∙ ap (λ u. size_of u.segments) c.unit.ensures)
