use Rattle.std.proofs.Common.{◌≡◌, ◌*◌, ◌-◌, ◌≤◌, take, drop, sum, length}
use Rattle.rec_text.specs.Digits.{bytes_of}
use Rattle.rec_text.specs.Lanes.{behind}
use Rattle.rec_text.proofs.lanes.by_lanes.Given as goal

abbrev pub invariant-loop-k : goal.invariant-loop-k
invariant-loop-k l = record {
  spelled : bytes_of l.digits ≡ behind (take l.k l.out) (bytes_of (drop (2 * l.k) l.digits));
  total : l.total ≡ sum (take l.k l.out);
  small : l.total ≤ 255 * l.k;
  within : 2 * l.k ≤ length l.digits;
}

abbrev pub decreases-loop-k : goal.decreases-loop-k
decreases-loop-k l = length l.digits - l.k
