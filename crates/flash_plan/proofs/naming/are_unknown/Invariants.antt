use Rattle.std.proofs.Common.{◌≡◌, drop}
use Rattle.std.specs.List.{list_any}
use Rattle.flash_plan.specs.Accepting.{is_unknown}
use Rattle.flash_plan.proofs.naming.are_unknown.Given as goal

abbrev pub invariant-loop-i : goal.invariant-loop-i
invariant-loop-i l = list_any (is_unknown l.drafts) l.names ≡ list_any (is_unknown l.drafts) (drop l.i l.names)
