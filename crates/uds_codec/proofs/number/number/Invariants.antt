use Rattle.std.proofs.Common.{◌≡◌, ◌<◌, ◌^◌, drop}
use Rattle.flash_base.specs.Numbers.{number_of, number_after}
use Rattle.uds_codec.proofs.number.number.Given as goal

abbrev pub invariant-loop-i : goal.invariant-loop-i
invariant-loop-i l = record {
  rest : number_of l.bytes ≡ number_after l.n (drop l.i l.bytes);
  small : l.n < 256 ^ l.i;
}
