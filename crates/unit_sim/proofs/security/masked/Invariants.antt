use Rattle.std.proofs.Common.{◌≡◌, ◌++◌, drop}
use Rattle.uds_codec.specs.Key.{xor_from}
use Rattle.unit_sim.proofs.security.masked.Given as goal

abbrev pub invariant-loop-i : goal.invariant-loop-i
invariant-loop-i l = l.key.items ++ xor_from l.mask l.i (drop l.i l.seed) ≡ xor_from l.mask 0 l.seed
