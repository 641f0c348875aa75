use Rattle.std.proofs.Common.{◌≡◌, ◌++◌, take, flat_map}
use Rattle.flash_plan.specs.Canonical.{counted}
use Rattle.flash_plan.proofs.writing.put_values.Given as goal

abbrev pub invariant-loop-value : goal.invariant-loop-value
invariant-loop-value l = l.out ≡ l.initial.out ++ flat_map counted (take l.value-index l.value-items)
