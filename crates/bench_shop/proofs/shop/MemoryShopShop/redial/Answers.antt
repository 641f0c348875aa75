use Rattle.std.proofs.Common.{ℕ, refl, subst}
use Rattle.bench_shop.specs.Benches.{Went}
use Rattle.bench_shop.proofs.Calling.{err_is, late_call, link_call, link_fails, not_over, redialed_now, went_past}
use Rattle.bench_shop.proofs.shop.MemoryShopShop.redial.Goals as goal

pub returns-then-is_over-clause-call : goal.returns-then-is_over-clause-call
returns-then-is_over-clause-call c = late_call _ c.args.self.now.disk c.late.new.disk c.args.self.now.bench _ (c.if-is_over.ensures.0 refl) c.late.ensures

pub returns-clause-call : goal.returns-clause-call
returns-clause-call c = link_call _ c.args.self.now.plan.link _ _ _ c.args.self.now.disk c.begin-may.new.disk c.end_link.new.self c.args.self.now.bench c.redial-dialed.new.self _
    (not_over c.args.self.now.disk c.is_over.result c.if-is_over.false c.is_over.ensures.1) c.begin-may.ensures
    (subst (λ (m : ℕ). Went m c.args.self.now.bench c.redial-dialed.new.self) c.calls-moment.ensures c.redial-dialed.ensures.went) c.end_link.ensures (err_is c.redial-dialed.result _ c.is_err.ensures.value)

pub returns-clause-vehicle : goal.returns-clause-vehicle
returns-clause-vehicle c = redialed_now c.args.self.now.disk c.end_link.new.self c.args.self.now.bench c.redial-dialed.new.self _ c.args.self.now.last
    (went_past _ c.args.self.now.plan.link _ _ _ c.args.self.now.disk c.begin-may.new.disk c.end_link.new.self c.args.self.now.bench c.redial-dialed.new.self c.begin-may.ensures (subst (λ (m : ℕ). Went m c.args.self.now.bench c.redial-dialed.new.self) c.calls-moment.ensures c.redial-dialed.ensures.went) c.end_link.ensures)
    c.redial-dialed.ensures.redialed

pub returns-clause-exact : goal.returns-clause-exact
returns-clause-exact c = λ room. link_fails _ c.args.self.now.plan.link _ _ _ c.args.self.now.disk c.begin-may.new.disk c.end_link.new.self c.args.self.now.bench c.redial-dialed.new.self _ _ c.begin-may.ensures
    c.redial-dialed.ensures.exact (subst (λ (m : ℕ). Went m c.args.self.now.bench c.redial-dialed.new.self) c.calls-moment.ensures c.redial-dialed.ensures.went) c.end_link.ensures
