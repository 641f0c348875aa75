use Rattle.std.proofs.Common.{◌≡◌, ◌∙◌, ℕ, sym, subst}
use Rattle.std.proofs.lemmas.Result.{err_from_is_err_and}
use Rattle.ecu_mem.specs.Bounds.{IsIdent}
use Rattle.flash_base.specs.Lists.{Each}
use Rattle.flash_plan.specs.Accepting.{IsAsked}
use Rattle.plan_build.specs.Tasks.{did_of}
use Rattle.plan_build.proofs.Lists.{drop_at, each_last, wanted_failed, wanted_more}
use Rattle.plan_build.proofs.idents.all_wanted.Goals as goal

pub returns-in_err-wanted-clause-is : goal.returns-in_err-wanted-clause-is
returns-in_err-wanted-clause-is c =
    let p = err_from_is_err_and c.from_residual-in_err-wanted.result c.from_residual-in_err-wanted.ensures.1 in
    let x = c.ident-item.result in
    let same : c.did_in-did.result ≡ did_of c.args.dids.now x.name = c.did_in-did.ensures.is ∙ c.in_ok-table.ensures x.name in
    rw (p.1, p.2)
    (wanted_failed c.args.name.now c.args.task.now c.args.dids.now c.args.idents.now c.loop-ident.ident-index x c.did_in-did.result c.in_err-wanted.field-0.0 c.loop-ident.all c.loop-ident-test.true c.ident-item.is same c.in_err-wanted.ensures.is
    c.loop-ident.invariant.is)

pub loop-ident-preserved : goal.loop-ident-preserved
loop-ident-preserved c =
    let i = c.loop-ident.invariant in
    let n : ℕ = c.loop-ident.ident-index in
    let x = c.ident-item.result in
    let same : c.did_in-did.result ≡ did_of c.args.dids.now x.name = c.did_in-did.ensures.is ∙ c.in_ok-table.ensures x.name in
    record {
      is =
          wanted_more c.args.name.now c.args.task.now c.args.dids.now c.args.idents.now n x c.did_in-did.result c.in_ok-wanted.wanted c.loop-ident.all c.push.new.self c.loop-ident-test.true c.ident-item.is same c.in_ok-wanted.ensures.is
          c.in_ok-push.ensures.ok i.is;
      values = (subst (Each IsIdent) (drop_at c.args.idents.now n x c.loop-ident-test.true c.ident-item.is) i.values).1;
      asked = subst (Each IsAsked) (sym c.in_ok-push.ensures.ok) (each_last IsAsked c.loop-ident.all c.in_ok-wanted.wanted i.asked c.in_ok-wanted.ensures.asked);
    }
