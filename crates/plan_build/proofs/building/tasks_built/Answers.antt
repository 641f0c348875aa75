use Rattle.std.proofs.Common.{◌<◌, ◌≤◌, inr, List, Ok, Err, refl, sym, subst, arith, length}
use Rattle.std.proofs.lemmas.Result.{err_from_is_err_and}
use Rattle.flash_order.specs.declared.order.Task.{Task}
use Rattle.flash_plan.specs.declared.fault.What.TheVariants.{Units}
use Rattle.plan_build.specs.Building.{few_tasks}
use Rattle.plan_build.specs.Fetched.{came}
use Rattle.plan_build.specs.Tasks.{parts}
use Rattle.plan_build.specs.declared.built.Parts.{Parts}
use Rattle.plan_build.specs.declared.fault.BuildFault.TheVariants.{Input}
use Rattle.plan_build.specs.declared.fault.Cause.TheVariants.{TooMany}
use Rattle.plan_build.proofs.Drafts.{few, many}
use Rattle.plan_build.proofs.Steps.{off, on, refusal, Or}
use Rattle.plan_build.proofs.building.tasks_built.Goals as goal

pub returns-then-len-gt-UNIT_LIMIT-clause-read : goal.returns-then-len-gt-UNIT_LIMIT-clause-read
returns-then-len-gt-UNIT_LIMIT-clause-read g c =
    let name = c.args.name.now in
    let ts = c.args.order.tasks in
    let over : 64 < length ts = omega (arith, c.if-len-gt-UNIT_LIMIT.true, c.len.ensures) in
    λ q h. off c.input.result refl (refusal c.input.result (Input name (TooMany Units)) (few_tasks name ts) c.input.ensures (many name ts over))

pub returns-in_err-parts-clause-read : goal.returns-in_err-parts-clause-read
returns-in_err-parts-clause-read g c =
    let p = err_from_is_err_and c.from_residual.result c.from_residual.ensures.1 in
    let e = c.in_err-parts.field-0.0 in
    let name = c.args.name.now in
    let ts = c.args.order.tasks in
    let within : length ts ≤ 64 = omega (arith, c.if-len-gt-UNIT_LIMIT.false, c.len.ensures) in
    rw (p.1, p.2) (λ q h.
    on ts (inr (sym (few name ts within)))
    (off e refl (subst (λ (l : List Task). Or {A = Parts} (Err e) (parts (came q) name c.args.catalogue.now 0 67108864 l)) c.as_slice.ensures (c.in_err-parts.ensures.read q h))))

pub returns-clause-read : goal.returns-clause-read
returns-clause-read g c =
    let name = c.args.name.now in
    let ts = c.args.order.tasks in
    let ps = c.in_ok-parts.parts in
    let within : length ts ≤ 64 = omega (arith, c.if-len-gt-UNIT_LIMIT.false, c.len.ensures) in
    λ q h.
    on ts (inr (sym (few name ts within)))
    (on ps (subst (λ (l : List Task). Or {A = Parts} (Ok ps) (parts (came q) name c.args.catalogue.now 0 67108864 l)) c.as_slice.ensures (c.in_ok-parts.ensures.read q h)) c.planned.ensures.is)
