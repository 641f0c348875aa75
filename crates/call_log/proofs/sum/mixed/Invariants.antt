use Rattle.std.proofs.Common.{◌≡◌, ◌<◌, drop}
use Rattle.call_log.specs.Log.{mixed}
use Rattle.call_log.proofs.sum.mixed.Given as goal

abbrev pub invariant-loop-b : goal.invariant-loop-b
invariant-loop-b l = record {
  same : mixed l.sum l.bytes ≡ mixed l.mix (drop l.b-index l.bytes);
  fits : l.mix < 4294967296;
}
