use Rattle.std.proofs.Common.{◌≡◌, ◌++◌, drop, map}
use Rattle.flash_plan.specs.Accepting.{after_of}
use Rattle.flash_plan.proofs.numbering.all_after.Given as goal

abbrev pub invariant-loop-n : goal.invariant-loop-n
invariant-loop-n l = map (after_of l.drafts) l.drafts ≡ l.afters ++ map (after_of l.drafts) (drop l.n l.drafts)
