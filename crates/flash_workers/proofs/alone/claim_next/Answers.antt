use Rattle.std.proofs.Common.{◌<◌, List, sym, subst}
use Rattle.flash_plan.specs.Plan.{count_of}
use Rattle.flash_plan.specs.declared.unit.UnitPlan.{UnitPlan}
use Rattle.flash_workers.proofs.Steps.{claimed_within, claim_open}
use Rattle.flash_workers.proofs.alone.claim_next.Goals as goal

pub returns-in-Unit-clause-some : goal.returns-in-Unit-clause-some
returns-in-Unit-clause-some g c =
    let taken = c.in-Unit.ensures in (
      subst (λ (P : List UnitPlan). c.in-Unit.unit < count_of P) (sym c.requires.plan) (claimed_within c.args.bay.now.run c.in-Unit.unit taken.0),
      claim_open c.in-Unit.unit c.args.bay.now c.claim.new.self taken.0 taken.1,
    )
