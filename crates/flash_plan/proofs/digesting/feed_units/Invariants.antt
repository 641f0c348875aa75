use Rattle.std.proofs.Common.{◌++◌, ℕ, List, take, flat_map}
use Rattle.sha2.specs.Hashers.{Holds256}
use Rattle.flash_plan.specs.Canonical.{unit_bytes}
use Rattle.flash_plan.proofs.digesting.feed_units.Given as goal

abbrev pub invariant-loop-unit : goal.invariant-loop-unit
invariant-loop-unit l = (m : List ℕ) → Holds256 l.initial.hasher m → Holds256 l.hasher (m ++ flat_map unit_bytes (take l.unit-index l.unit-items))
