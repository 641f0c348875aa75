use Rattle.std.proofs.Common.{ℕ, List, Option, IfOk, refl, subst, ap, ◌∙◌}
use Rattle.bench_shop.specs.Faults.{piece_for}
use Rattle.bench_shop.specs.Shops.{GarblesIn}
use Rattle.bench_shop.specs.Benches.{Went}
use Rattle.bench_shop.proofs.Calling.{brought, clean, err_or, late_call, late_misses, late_past, link_call, link_fails, not_over, received_now, went_past}
use Rattle.bench_shop.proofs.shop.MemoryShopShop.receive.Goals as goal

pub returns-then-is_over-clause-call : goal.returns-then-is_over-clause-call
returns-then-is_over-clause-call c = late_call _ c.args.self.now.disk c.late.new.disk c.args.self.now.bench _ (c.if-is_over.ensures.0 refl) c.late.ensures

pub returns-then-is_over-clause-vehicle : goal.returns-then-is_over-clause-vehicle
returns-then-is_over-clause-vehicle c = late_misses c.args.self.now.disk c.late.new.disk c.args.self.now.bench c.args.self.now.last
    (late_past _ _ c.args.self.now.disk c.late.new.disk c.args.self.now.bench c.args.self.now.last c.late.ensures)

pub returns-clause-call : goal.returns-clause-call
returns-clause-call c = link_call _ c.args.self.now.plan.link _ _ _ c.args.self.now.disk c.begin-may.new.disk c.end_link.new.self c.args.self.now.bench c.take-got.new.bench _
    (not_over c.args.self.now.disk c.is_over.result c.if-is_over.false c.is_over.ensures.1) c.begin-may.ensures
    (subst (λ (m : ℕ). Went m c.args.self.now.bench c.take-got.new.bench) c.calls-moment.ensures c.take-got.ensures.went) c.end_link.ensures (err_or c.take-got.result _ _ c.is_faulty-faulty.ensures)

pub returns-clause-vehicle : goal.returns-clause-vehicle
returns-clause-vehicle c = received_now _ _ c.take-got.new.out c.args.self.now.disk c.end_link.new.self c.args.self.now.bench c.take-got.new.bench _ c.args.self.now.last
    (went_past _ c.args.self.now.plan.link _ _ _ c.args.self.now.disk c.begin-may.new.disk c.end_link.new.self c.args.self.now.bench c.take-got.new.bench c.begin-may.ensures (subst (λ (m : ℕ). Went m c.args.self.now.bench c.take-got.new.bench) c.calls-moment.ensures c.take-got.ensures.went) c.end_link.ensures)
    (clean _ _ _ _ c.args.self.now.disk c.begin-may.new.disk c.end_link.new.self _ _ c.is_faulty-faulty.ensures c.begin-may.ensures.passed c.end_link.ensures)
    c.take-got.ensures.received

pub returns-clause-garbled : goal.returns-clause-garbled
returns-clause-garbled c = subst (λ (o : Option (List ℕ)). IfOk c.take-got.result (GarblesIn o c.take-got.new.out c.args.self.now.disk c.end_link.new.self))
    (c.piece_for-piece.ensures.is ∙ ap (λ (gs : List (ℕ × List ℕ)). piece_for gs c.args.self.now.receives) c.as_slice.ensures)
    (brought _ c.take-got.new.out _ _ c.args.self.now.disk c.begin-may.new.disk c.end_link.new.self _ _ c.take-got.result c.is_faulty-faulty.ensures c.begin-may.ensures.passed c.end_link.ensures c.take-got.ensures.brings)

pub returns-clause-exact : goal.returns-clause-exact
returns-clause-exact c = λ room. link_fails _ c.args.self.now.plan.link _ _ _ c.args.self.now.disk c.begin-may.new.disk c.end_link.new.self c.args.self.now.bench c.take-got.new.bench _ _ c.begin-may.ensures
    c.take-got.ensures.exact (subst (λ (m : ℕ). Went m c.args.self.now.bench c.take-got.new.bench) c.calls-moment.ensures c.take-got.ensures.went) c.end_link.ensures

pub returns-clause-does : goal.returns-clause-does
returns-clause-does c = λ none. c.take-got.ensures.does
    (c.piece_for-piece.ensures.is ∙ (ap (λ (gs : List (ℕ × List ℕ)). piece_for gs c.args.self.now.receives) c.as_slice.ensures ∙ none))
