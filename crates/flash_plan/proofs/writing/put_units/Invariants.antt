use Rattle.std.proofs.Common.{◌≡◌, ◌++◌, take, flat_map}
use Rattle.flash_plan.specs.Canonical.{unit_bytes}
use Rattle.flash_plan.proofs.writing.put_units.Given as goal

abbrev pub invariant-loop-unit : goal.invariant-loop-unit
invariant-loop-unit l = l.out ≡ l.initial.out ++ flat_map unit_bytes (take l.unit-index l.unit-items)
