use Rattle.std.proofs.Common.{◌≡◌, ◌≤◌, ◌++◌, drop, length}
use Rattle.flash_base.specs.Numbers.{big_endian}
use Rattle.uds_codec.proofs.number.put_number.Given as goal

-- the bytes of what is left, and those that are written
abbrev pub invariant-loop-i : goal.invariant-loop-i
invariant-loop-i g l = record {
  within : l.i ≤ g.row.N;
  size : length l.bytes ≡ g.row.N;
  whole : big_endian g.row.N l.fn.value ≡ big_endian l.i l.rest ++ drop l.i l.bytes;
}

abbrev pub decreases-loop-i : goal.decreases-loop-i
decreases-loop-i g l = l.i
