use Rattle.std.proofs.Common.{[], ◌∷◌, All, length, subst, ap, arith, length-append}
use Rattle.flash_workers.specs.Crew.{IsHired}
use Rattle.flash_workers.proofs.Crews.{all_but_last, follows-trans}
use Rattle.flash_workers.proofs.crew.dismiss.Goals as goal

pub loop-worker-preserved : goal.loop-worker-preserved
loop-worker-preserved g c =
    let h = c.in-Some.ensures in
    let d = c.dismiss_one.ensures in
    let i = c.loop-worker.invariant in
    let n = i.0.count in
    let e = ap length h.items in (
      record {
        lead = d.first;
        is_first = d.leads;
        count = omega (arith, d.fewer, n, e, length-append c.pop.new.self.items (c.in-Some.worker ∷ []));
        each = all_but_last (IsHired c.args.turn.now c.args.plan.now) _ _ (subst (All (IsHired c.args.turn.now c.args.plan.now)) h.items i.0.each);
      },
      follows-trans _ _ _ i.1 d.follows,
    )
