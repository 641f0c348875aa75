use Rattle.std.proofs.Common.{◌≡◌, drop}
use Rattle.flash_base.specs.Files.{first_of}
use Rattle.ecu_mem.proofs.parts.attribute.Given as goal

abbrev pub invariant-loop-pair : goal.invariant-loop-pair
invariant-loop-pair l = first_of l.name l.pair-items ≡ first_of l.name (drop l.pair-index l.pair-items)
