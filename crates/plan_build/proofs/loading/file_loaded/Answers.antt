use Rattle.std.proofs.Common.{inr, refl, sym}
use Rattle.std.proofs.lemmas.Result.{err_from_is_err_and}
use Rattle.plan_build.proofs.Steps.{off, on}
use Rattle.plan_build.proofs.loading.file_loaded.Goals as goal

pub returns-in_err-bytes-clause-read : goal.returns-in_err-bytes-clause-read
returns-in_err-bytes-clause-read g c =
    let p = err_from_is_err_and c.from_residual.result c.from_residual.ensures.1 in
    rw (p.1, p.2, sym c.as_str.ensures) (λ q h. off c.in_err-bytes.field-0.0 refl (c.in_err-bytes.ensures.read q h))

pub returns-clause-read : goal.returns-clause-read
returns-clause-read g c =
    rw (sym c.as_str.ensures, sym c.in_ok-idents.ensures) (λ q h. on c.in_ok-bytes.bytes (c.in_ok-bytes.ensures.read q h) (inr refl))
