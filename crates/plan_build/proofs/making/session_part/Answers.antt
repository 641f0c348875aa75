use Rattle.std.proofs.Common.{inr, refl, ap, Ok}
use Rattle.std.proofs.lemmas.Result.{err_from_is_err_and}
use Rattle.plan_build.proofs.Steps.{off, on}
use Rattle.plan_build.proofs.making.session_part.Goals as goal

pub returns-in_err-image-clause-is : goal.returns-in_err-image-clause-is
returns-in_err-image-clause-is c =
    let p = err_from_is_err_and c.from_residual.result c.from_residual.ensures.1 in
    rw (p.1, p.2) (off c.in_err-image.field-0.0 refl c.in_err-image.ensures.is)

pub returns-clause-is : goal.returns-clause-is
returns-clause-is c = on c.in_ok-image.image c.in_ok-image.ensures.is (inr (ap Ok c.in_ok-part_with.ensures.is))
