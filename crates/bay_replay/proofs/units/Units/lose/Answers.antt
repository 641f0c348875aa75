use Rattle.std.proofs.Common.{◌≢◌, ℕ, sym, subst, ◌∙◌, below_more, arith}
use Rattle.flash_plan.specs.Plan.{plan_of}
use Rattle.bay_replay.specs.declared.units.Unit.{Unit as Kept}
use Rattle.bay_replay.specs.Units.{unit_of, IsLostUnit}
use Rattle.bay_replay.proofs.units.Units.lose.Goals as goal

pub loop-n-preserved : goal.loop-n-preserved
loop-n-preserved c = record {
  size = c.lose_at.ensures.size ∙ c.loop-n.invariant.size;
  below = below_more (λ (k : ℕ). IsLostUnit (plan_of c.args.plan.now k) (unit_of c.args.self.now k) (unit_of c.lose_at.new.self k)) c.loop-n.n
      (λ k lt. let ne : k ≢ c.loop-n.n = omega arith in subst (λ (x : Kept). IsLostUnit (plan_of c.args.plan.now k) (unit_of c.args.self.now k) x) (sym (c.lose_at.ensures.others k ne)) (c.loop-n.invariant.below k lt))
      (subst (λ (x : Kept). IsLostUnit (plan_of c.args.plan.now c.loop-n.n) x (unit_of c.lose_at.new.self c.loop-n.n)) (c.loop-n.invariant.above c.loop-n.n (omega arith)) c.lose_at.ensures.here);
  above = λ k le. let ne : k ≢ c.loop-n.n = omega arith in c.lose_at.ensures.others k ne ∙ c.loop-n.invariant.above k (omega arith);
}
