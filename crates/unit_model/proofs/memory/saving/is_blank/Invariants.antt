use Rattle.std.proofs.Common.{◌≡◌, drop}
use Rattle.unit_model.specs.Saving.{is_blank}
use Rattle.unit_model.proofs.memory.saving.is_blank.Given as goal

abbrev pub invariant-loop-byte : goal.invariant-loop-byte
invariant-loop-byte l = is_blank (drop l.byte-index l.bytes) ≡ is_blank l.bytes
