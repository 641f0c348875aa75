use Rattle.std.proofs.Common.{◌≡◌, ◌-◌, ◌++◌, length}
use Rattle.flash_plan.specs.Accepting.{after_of, numbers_from}
use Rattle.flash_plan.specs.Numbering.{names_task}
use Rattle.flash_plan.proofs.numbering.after_of.Given as goal

abbrev pub invariant-loop-w : goal.invariant-loop-w
invariant-loop-w l = after_of l.drafts l.draft ≡ l.numbers ++ numbers_from l.w (length l.drafts - l.w) (names_task l.drafts l.draft)
