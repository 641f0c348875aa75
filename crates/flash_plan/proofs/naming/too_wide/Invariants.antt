use Rattle.std.proofs.Common.{◌≡◌, ◌-◌, length}
use Rattle.flash_plan.specs.Accepting.{first_from, first_task, has_wide}
use Rattle.flash_plan.proofs.naming.too_wide.Given as goal

abbrev pub invariant-loop-n : goal.invariant-loop-n
invariant-loop-n l = first_task l.drafts (has_wide l.drafts) ≡ first_from l.n (length l.drafts - l.n) (has_wide l.drafts)
