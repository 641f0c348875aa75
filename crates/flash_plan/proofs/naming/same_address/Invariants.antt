use Rattle.std.proofs.Common.{◌≡◌, ◌-◌, length}
use Rattle.flash_plan.specs.Accepting.{first_from, first_task, has_same_address}
use Rattle.flash_plan.proofs.naming.same_address.Given as goal

abbrev pub invariant-loop-n : goal.invariant-loop-n
invariant-loop-n l = first_task l.drafts (has_same_address l.drafts) ≡ first_from l.n (length l.drafts - l.n) (has_same_address l.drafts)
