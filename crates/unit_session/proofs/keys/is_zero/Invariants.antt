use Rattle.std.proofs.Common.{◌≡◌, drop}
use Rattle.uds_codec.specs.Key.{all_zero}
use Rattle.unit_session.proofs.keys.is_zero.Given as goal

abbrev pub invariant-loop-b : goal.invariant-loop-b
invariant-loop-b l = all_zero (drop l.b-index l.bytes) ≡ all_zero l.bytes
