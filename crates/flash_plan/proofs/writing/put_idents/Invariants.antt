use Rattle.std.proofs.Common.{◌≡◌, ◌++◌, take, flat_map}
use Rattle.flash_plan.specs.Canonical.{wanted_bytes}
use Rattle.flash_plan.proofs.writing.put_idents.Given as goal

abbrev pub invariant-loop-wanted : goal.invariant-loop-wanted
invariant-loop-wanted l = l.out ≡ l.initial.out ++ flat_map wanted_bytes (take l.wanted-index l.wanted-items)
