use Rattle.std.proofs.Common.{◌≡◌, ◌-◌, bytes_eq}
use Rattle.flash_plan.specs.Accepting.{draft_of, has_same_name, is_some_from}
use Rattle.flash_plan.proofs.naming.has_same_name.Given as goal

abbrev pub invariant-loop-m : goal.invariant-loop-m
invariant-loop-m l = has_same_name l.drafts l.n ≡ is_some_from l.m (l.n - l.m) (λ m. bytes_eq (draft_of l.drafts m).name (draft_of l.drafts l.n).name)
