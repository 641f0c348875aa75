use Rattle.std.proofs.Common.{◌≡◌, inr, ℕ, List, Result, Ok, Err, sym, subst, ap}
use Rattle.plan_build.specs.Tasks.{found_or_not, session_in}
use Rattle.plan_build.specs.declared.fault.BuildFault.{BuildFault}
use Rattle.plan_build.specs.declared.fault.BuildFault.TheVariants.{Input}
use Rattle.plan_build.specs.declared.fault.Cause.TheVariants.{NoSession}
use Rattle.plan_build.proofs.Steps.{refusal}
use Rattle.plan_build.proofs.loading.session_in.Goals as goal

pub returns-in-Some-clause-is : goal.returns-in-Some-clause-is
returns-in-Some-clause-is c =
    let name = c.args.name.now in
    let t = c.args.task.now in
    inr (subst (λ (i : List ℕ). ◌≡◌ {A = Result ℕ BuildFault} (Ok c.in-Some.session) (session_in name t c.args.catalogue.now i)) c.as_str.ensures (ap (found_or_not name t) c.in-Some.ensures.value))

pub returns-in-None-clause-is : goal.returns-in-None-clause-is
returns-in-None-clause-is c =
    let name = c.args.name.now in
    let t = c.args.task.now in
    let none = subst (λ (i : List ℕ). ◌≡◌ {A = Result ℕ BuildFault} (Err (Input name (NoSession t.name))) (session_in name t c.args.catalogue.now i)) c.as_str.ensures (ap (found_or_not name t) c.in-None.ensures.value) in
    refusal c.no_session.result (Input name (NoSession t.name)) (session_in name t c.args.catalogue.now c.args.id.now) c.no_session.ensures (sym none)
