use Rattle.std.proofs.Common.{◌<◌, length, bytes_eq, arith, ◌∙◌, ap}
use Rattle.flash_plan.specs.declared.unit.UnitPlan.{UnitPlan}
use Rattle.plan_commands.proofs.Numbers.{found, passed}
use Rattle.plan_commands.proofs.answering.number_of.Goals as goal

pub returns-then-is-clause-is : goal.returns-then-is-clause-is
returns-then-is-clause-is c =
    let within : c.loop-n.n < length c.args.plan.now = omega (arith, c.loop-n-test.true, c.units-n-end.ensures) in
    found (λ (u : UnitPlan). bytes_eq u.name c.args.task.now) c.args.plan.now c.loop-n.n c.is.result within
    (c.is.ensures.same ∙ ap (λ (u : UnitPlan). bytes_eq u.name c.args.task.now) c.unit.ensures) c.if-is.true c.loop-n.invariant

pub loop-n-preserved : goal.loop-n-preserved
loop-n-preserved c =
    let within : c.loop-n.n < length c.args.plan.now = omega (arith, c.loop-n-test.true, c.units-n-end.ensures) in
    passed (λ (u : UnitPlan). bytes_eq u.name c.args.task.now) c.args.plan.now c.loop-n.n c.is.result within
    (c.is.ensures.same ∙ ap (λ (u : UnitPlan). bytes_eq u.name c.args.task.now) c.unit.ensures) c.if-is.false c.loop-n.invariant
