use Rattle.std.proofs.Common.{◌≡◌, ◌≤◌, drop}
use Rattle.unit_session.specs.Onward.{cap_after, cap_of}
use Rattle.unit_session.proofs.onward.capped.Given as goal

abbrev pub invariant-loop-b : goal.invariant-loop-b
invariant-loop-b l = record {
  small : l.n ≤ 65535;
  is : cap_after l.n (drop l.b-index l.bytes) ≡ cap_of l.bytes;
}
