use Rattle.std.proofs.Common.{◌≡◌, ◌∙◌, ℕ, List, Ok, Err, refl, sym, subst, ap, length}
use Rattle.std.proofs.lemmas.Result.{err_from_is_err_and}
use Rattle.ecu_mem.specs.Bounds.{IsIdent, IsSessionAmong}
use Rattle.ecu_mem.specs.declared.types.Ident.{Ident}
use Rattle.ecu_mem.specs.declared.types.Session.{Session}
use Rattle.flash_base.specs.Lists.{Each}
use Rattle.flash_plan.specs.declared.unit.Wanted.{Wanted}
use Rattle.session_image.specs.Files.{session_of}
use Rattle.plan_build.specs.Answers.{just}
use Rattle.plan_build.specs.Tasks.{all_wanted}
use Rattle.plan_build.proofs.Drafts.{session_at}
use Rattle.plan_build.proofs.Lists.{each_at}
use Rattle.plan_build.proofs.Steps.{off, on, Or}
use Rattle.plan_build.proofs.loading.session_loaded.Goals as goal

pub returns-in_err-session-clause-read : goal.returns-in_err-session-clause-read
returns-in_err-session-clause-read g c =
    let p = err_from_is_err_and c.from_residual.result c.from_residual.ensures.1 in
    rw (p.1, p.2) (λ q h. off c.in_err-session.field-0.0 refl c.in_err-session.ensures.is)

pub all_wanted-requires : goal.all_wanted-requires
all_wanted-requires g c =
    let m = c.args.catalogue.now.mem in
    let x : IsSessionAmong (length m.blocks) c.at-found.result.now = each_at (IsSessionAmong (length m.blocks)) m.sessions c.in_ok-session.session c.at-found.result.now c.at-found.ensures c.requires.whole.sessions in
    subst (Each IsIdent) (sym c.as_slice.ensures) x.idents

pub returns-in_err-idents-clause-read : goal.returns-in_err-idents-clause-read
returns-in_err-idents-clause-read g c =
    let p = err_from_is_err_and c.from_residual-in_err-idents.result c.from_residual-in_err-idents.ensures.1 in
    let e = c.in_err-idents.field-0.0 in
    let m = c.args.catalogue.now.mem in
    let s : ℕ = c.in_ok-session.session in
    let is : c.as_slice.result.now ≡ (session_of m s).idents = c.as_slice.ensures ∙ ap (λ (x : Session). x.idents) (sym (session_at m s c.at-found.result.now c.at-found.ensures)) in
    rw (p.1, p.2) (λ q h.
    on s c.in_ok-session.ensures.is
    (off e refl (subst (λ (l : List Ident). Or {A = List Wanted} (Err e) (just (all_wanted c.args.name.now c.args.task.now c.args.dids.now l))) is c.in_err-idents.ensures.is)))

pub returns-clause-read : goal.returns-clause-read
returns-clause-read g c =
    let m = c.args.catalogue.now.mem in
    let s : ℕ = c.in_ok-session.session in
    let ws = c.in_ok-idents.idents in
    let is : c.as_slice.result.now ≡ (session_of m s).idents = c.as_slice.ensures ∙ ap (λ (x : Session). x.idents) (sym (session_at m s c.at-found.result.now c.at-found.ensures)) in
    λ q h.
    on s c.in_ok-session.ensures.is
    (on ws (subst (λ (l : List Ident). Or {A = List Wanted} (Ok ws) (just (all_wanted c.args.name.now c.args.task.now c.args.dids.now l))) is c.in_ok-idents.ensures.is)
    (c.files_loaded.ensures.read q h))
