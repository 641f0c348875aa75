use Rattle.std.proofs.Common.{◌≡◌, ◌∙◌, ℕ, List, refl, subst, sym}
use Rattle.std.proofs.lemmas.Result.{err_from_is_err_and}
use Rattle.plan_build.specs.Answers.{just}
use Rattle.plan_build.specs.Catalogues.{catalogue_in}
use Rattle.plan_build.proofs.Steps.{off, on, Or}
use Rattle.plan_build.proofs.catalogue.catalogue_at.Goals as goal

pub returns-in_err-bytes-in-Some-clause-read : goal.returns-in_err-bytes-in-Some-clause-read
returns-in_err-bytes-in-Some-clause-read g c =
    let p = err_from_is_err_and c.from_residual.result c.from_residual.ensures.1 in
    rw (p.1, p.2, c.in-Some.is, sym c.as_str.ensures) (λ q h. off c.in_err-bytes-in-Some.field-0.0 refl (c.in_err-bytes-in-Some.ensures.read q h))

pub returns-in_ok-bytes-in-Some-clause-read : goal.returns-in_ok-bytes-in-Some-clause-read
returns-in_ok-bytes-in-Some-clause-read g c =
    let bytes = c.in_ok-bytes-in-Some.bytes in
    let same : c.as_str-in-Some.result.now ≡ c.as_str.result.now = c.as_str-in-Some.ensures ∙ sym c.as_str.ensures in
    let made = subst (λ (b : List ℕ). Or c.catalogue_in.result (just (catalogue_in c.as_str-in-Some.result.now b))) c.as_slice.ensures c.catalogue_in.ensures.is in
    let last = subst (λ (n : List ℕ). Or c.catalogue_in.result (just (catalogue_in n bytes))) same made in
    rw (c.in-Some.is, sym c.as_str.ensures) (λ q h. on bytes (c.in_ok-bytes-in-Some.ensures.read q h) last)
