use Rattle.std.proofs.Common.{◌≡◌, ◌++◌, take, flat_map}
use Rattle.flash_base.specs.Numbers.{big_endian}
use Rattle.flash_plan.proofs.writing.put_after.Given as goal

abbrev pub invariant-loop-number : goal.invariant-loop-number
invariant-loop-number l = l.out ≡ l.initial.out ++ flat_map (big_endian 2) (take l.number-index l.number-items)
