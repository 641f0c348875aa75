use Rattle.std.proofs.Common.{◌≡◌, drop}
use Rattle.std.specs.List.{list_any}
use Rattle.flash_plan.specs.Accepting.{is_wide}
use Rattle.flash_plan.proofs.naming.are_wide.Given as goal

abbrev pub invariant-loop-i : goal.invariant-loop-i
invariant-loop-i l = list_any (is_wide l.width) l.segments ≡ list_any (is_wide l.width) (drop l.i l.segments)
