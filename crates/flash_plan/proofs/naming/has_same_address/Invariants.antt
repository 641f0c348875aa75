use Rattle.std.proofs.Common.{◌≡◌, ◌==◌, ◌-◌}
use Rattle.flash_plan.specs.Accepting.{draft_of, has_same_address, is_some_from}
use Rattle.flash_plan.proofs.naming.has_same_address.Given as goal

abbrev pub invariant-loop-m : goal.invariant-loop-m
invariant-loop-m l = has_same_address l.drafts l.n ≡ is_some_from l.m (l.n - l.m) (λ m. (draft_of l.drafts m).address == (draft_of l.drafts l.n).address)
