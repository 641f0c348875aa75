use Rattle.std.proofs.Common.{ℕ, List, [], refl, subst}
use Rattle.shop_model.specs.History.{LinkCall, Send}
use Rattle.bench_shop.specs.Shops.{history}
use Rattle.bench_shop.specs.Pasts.{vehicle_of}
use Rattle.unit_model.specs.Feed.{Feeds}
use Rattle.vehicle_world.specs.declared.world.World.{World}
use Rattle.bench_shop.specs.Benches.{Went}
use Rattle.bench_shop.proofs.Calling.{err_is, late_call, late_past, link_call, link_fails, not_over, not_sent, sent_now, went_past}
use Rattle.bench_shop.proofs.shop.MemoryShopShop.send.Goals as goal

pub returns-then-is_over-clause-call : goal.returns-then-is_over-clause-call
returns-then-is_over-clause-call c = late_call _ c.args.self.now.disk c.late.new.disk c.args.self.now.bench _ (c.if-is_over.ensures.0 refl) c.late.ensures

pub returns-then-is_over-clause-vehicle : goal.returns-then-is_over-clause-vehicle
returns-then-is_over-clause-vehicle c = sent_now c.args.bytes.now c.args.self.now.disk c.late.new.disk c.args.self.now.bench c.args.self.now.bench _ c.args.self.now.last
    (late_past _ _ c.args.self.now.disk c.late.new.disk c.args.self.now.bench c.args.self.now.last c.late.ensures)
    (not_sent c.args.bytes.now (vehicle_of c.args.self.now.bench.world) _
    (subst (λ (w : World). Feeds [] (vehicle_of w) (vehicle_of w)) c.world.ensures c.nothing_sent.ensures))

pub returns-clause-call : goal.returns-clause-call
returns-clause-call c = subst (λ (bs : List ℕ). LinkCall (Send bs) (history c.args.self.now.disk c.args.self.now.bench)
    (history c.end_link.new.self c.send-sent.new.self) c.send-sent.result) c.seen.ensures
    (link_call _ c.args.self.now.plan.link _ _ _ c.args.self.now.disk c.begin-may.new.disk c.end_link.new.self c.args.self.now.bench c.send-sent.new.self _
    (not_over c.args.self.now.disk c.is_over.result c.if-is_over.false c.is_over.ensures.1) c.begin-may.ensures
    (subst (λ (m : ℕ). Went m c.args.self.now.bench c.send-sent.new.self) c.calls-moment.ensures c.send-sent.ensures.went) c.end_link.ensures (err_is c.send-sent.result _ c.is_err.ensures.value))

pub returns-clause-vehicle : goal.returns-clause-vehicle
returns-clause-vehicle c = sent_now c.args.bytes.now c.args.self.now.disk c.end_link.new.self c.args.self.now.bench c.send-sent.new.self _ c.args.self.now.last
    (went_past _ c.args.self.now.plan.link _ _ _ c.args.self.now.disk c.begin-may.new.disk c.end_link.new.self c.args.self.now.bench c.send-sent.new.self c.begin-may.ensures (subst (λ (m : ℕ). Went m c.args.self.now.bench c.send-sent.new.self) c.calls-moment.ensures c.send-sent.ensures.went) c.end_link.ensures)
    c.send-sent.ensures.sent

pub returns-clause-exact : goal.returns-clause-exact
returns-clause-exact c = λ room. link_fails _ c.args.self.now.plan.link _ _ _ c.args.self.now.disk c.begin-may.new.disk c.end_link.new.self c.args.self.now.bench c.send-sent.new.self _ _ c.begin-may.ensures
    c.send-sent.ensures.exact (subst (λ (m : ℕ). Went m c.args.self.now.bench c.send-sent.new.self) c.calls-moment.ensures c.send-sent.ensures.went) c.end_link.ensures
