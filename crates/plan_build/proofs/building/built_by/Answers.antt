use Rattle.std.proofs.Common.{refl, le_trans}
use Rattle.std.proofs.lemmas.Result.{err_from_is_err_and}
use Rattle.plan_build.proofs.Periods.{earlier, later}
use Rattle.plan_build.proofs.Steps.{off, on}
use Rattle.plan_build.proofs.building.built_by.Goals as goal

pub returns-in_err-order-clause-read : goal.returns-in_err-order-clause-read
returns-in_err-order-clause-read g c =
    let p = err_from_is_err_and c.from_residual.result c.from_residual.ensures.1 in
    rw (p.1, p.2) (λ q h. off c.in_err-order.field-0.0 refl (c.in_err-order.ensures.read q h))

pub returns-in_err-catalogue-clause-read : goal.returns-in_err-catalogue-clause-read
returns-in_err-catalogue-clause-read g c =
    let p = err_from_is_err_and c.from_residual-in_err-catalogue.result c.from_residual-in_err-catalogue.ensures.1 in
    let first = c.in_ok-order.ensures in
    let second = c.in_err-catalogue.ensures in
    rw (p.1, p.2) (λ q h. on c.in_ok-order.order (first.read q (earlier h second.never_falls)) (off c.in_err-catalogue.field-0.0 refl (second.read q (later h first.keeps first.never_falls))))

pub returns-clause-read : goal.returns-clause-read
returns-clause-read g c =
    let first = c.in_ok-order.ensures in
    let second = c.in_ok-catalogue.ensures in
    let third = c.tasks_built.ensures in
    λ q h.
    on c.in_ok-order.order (first.read q (earlier h (le_trans second.never_falls third.never_falls)))
    (on c.in_ok-catalogue.catalogue (second.read q (earlier (later h first.keeps first.never_falls) third.never_falls))
    (third.read q (later (later h first.keeps first.never_falls) second.keeps second.never_falls)))
