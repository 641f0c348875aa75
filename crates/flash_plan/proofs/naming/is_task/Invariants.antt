use Rattle.std.proofs.Common.{◌≡◌, drop}
use Rattle.flash_plan.specs.Accepting.{is_task}
use Rattle.flash_plan.proofs.naming.is_task.Given as goal

abbrev pub invariant-loop-n : goal.invariant-loop-n
invariant-loop-n l = is_task l.drafts l.name ≡ is_task (drop l.n l.drafts) l.name
