use Rattle.std.proofs.Common.{◌≡◌, ℕ, false, slice_index, sym, ◌∙◌, arith}
use borrow.Author.Count.{below_more}
use Rattle.bay_core.specs.declared.event.Event.TheVariants.{Ended}
use Rattle.flash_plan.specs.declared.outcome.Outcome.TheVariants.{Blocked}
use Rattle.flash_run.specs.Run.{may_take}
use Rattle.flash_run.proofs.Ends.{none_blocks, plan_after}
use Rattle.flash_run.proofs.run.Run.blocked.Goals as goal

pub loop-i-preserved : goal.loop-i-preserved
loop-i-preserved c =
    below_more (λ (k : ℕ). may_take c.args.self.now (Ended c.args.unit (Blocked (slice_index c.as_slice-after.result.now k))) ≡ false) c.loop-i.i c.loop-i.invariant (sym c.may_take.ensures ∙ c.if-may_take.false)

pub returns : goal.returns
returns c =
    none_blocks c.args.self.now c.args.unit c.loop-i.i c.as_slice-after.result.now (plan_after c.args.self.now c.args.plan.now c.args.unit c.unit.result.now c.as_slice-after.result.now c.requires.plan c.unit.ensures c.as_slice-after.ensures) c.loop-i.invariant (omega (arith, c.loop-i-test.false))
