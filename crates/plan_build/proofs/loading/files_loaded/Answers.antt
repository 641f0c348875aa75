use Rattle.std.proofs.Common.{◌∙◌, inr, ℕ, List, Ok, Err, refl, subst}
use Rattle.std.proofs.lemmas.Result.{err_from_is_err_and}
use Rattle.plan_build.specs.Fetched.{all_fetched, came}
use Rattle.plan_build.proofs.Lists.{has_each}
use Rattle.plan_build.proofs.Steps.{off, on, Or}
use Rattle.plan_build.proofs.loading.files_loaded.Goals as goal

pub returns-in_err-files-clause-read : goal.returns-in_err-files-clause-read
returns-in_err-files-clause-read g c =
    let p = err_from_is_err_and c.from_residual-in_err-files.result c.from_residual-in_err-files.ensures.1 in
    let e = c.in_err-files.field-0.0 in
    rw (p.1, p.2) (λ q h. off e refl (subst (λ (l : List (List ℕ)). Or {A = List (List ℕ × List ℕ)} (Err e) (all_fetched (came q) l)) c.in_ok-names.ensures (c.in_err-files.ensures.read q h)))

pub returns-clause-read : goal.returns-clause-read
returns-clause-read g c =
    let fs = c.in_ok-files.files in
    λ q h.
    on fs (subst (λ (l : List (List ℕ)). Or {A = List (List ℕ × List ℕ)} (Ok fs) (all_fetched (came q) l)) c.in_ok-names.ensures (c.in_ok-files.ensures.read q h))
    (inr refl)

pub returns-clause-ready : goal.returns-clause-ready
returns-clause-ready g c =
    (c.requires.whole, c.requires.session, has_each c.in_ok-files.files _ (c.in_ok-files.ensures.names ∙ c.in_ok-names.ensures), c.requires.idents)
