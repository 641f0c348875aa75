use Rattle.std.proofs.Common.{◌≡◌, drop}
use Rattle.ecu_mem.specs.Parts.{first_from, has_either_tag}
use Rattle.ecu_mem.proofs.parts.kid_of_two.Given as goal

abbrev pub invariant-loop-i : goal.invariant-loop-i
invariant-loop-i l = first_from 0 (has_either_tag l.tag l.other) l.kid-items ≡ first_from l.i (has_either_tag l.tag l.other) (drop l.i l.kid-items)
