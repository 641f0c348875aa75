use Rattle.flash_base.specs.Lists.{Each}
use Rattle.flash_plan.specs.Accepting.{IsDraft}
use Rattle.bench_runs.proofs.plans.drafts.Given as goal

abbrev pub invariant-loop-number : goal.invariant-loop-number
invariant-loop-number l = Each IsDraft l.drafts
