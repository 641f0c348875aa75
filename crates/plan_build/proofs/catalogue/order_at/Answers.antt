use Rattle.std.proofs.Common.{ℕ, List, refl, subst}
use Rattle.std.proofs.lemmas.Result.{err_from_is_err_and}
use Rattle.plan_build.specs.Answers.{just}
use Rattle.plan_build.specs.Catalogues.{order_in}
use Rattle.plan_build.proofs.Steps.{off, on, Or}
use Rattle.plan_build.proofs.catalogue.order_at.Goals as goal

pub returns-in_err-bytes-clause-read : goal.returns-in_err-bytes-clause-read
returns-in_err-bytes-clause-read g c =
    let p = err_from_is_err_and c.from_residual.result c.from_residual.ensures.1 in
    rw (p.1, p.2) (λ q h. off c.in_err-bytes.field-0.0 refl (c.in_err-bytes.ensures.read q h))

pub returns-clause-read : goal.returns-clause-read
returns-clause-read g c =
    λ q h. on c.in_ok-bytes.bytes (c.in_ok-bytes.ensures.read q h) (subst (λ (b : List ℕ). Or c.order_in.result (just (order_in c.args.name.now b))) c.as_slice.ensures c.order_in.ensures.is)
