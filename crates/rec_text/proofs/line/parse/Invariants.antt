use Rattle.std.proofs.Common.{◌≡◌, ◌*◌, ◌≤◌, take, drop, sum}
use Rattle.rec_text.specs.Digits.{bytes_of}
use Rattle.rec_text.specs.Lanes.{behind}
use Rattle.rec_text.proofs.line.parse.Given as goal

abbrev pub invariant-loop-k : goal.invariant-loop-k
invariant-loop-k l = record {
  spelled : bytes_of l.digits ≡ behind (take l.k l.out) (bytes_of (drop (2 * l.k) l.digits));
  total : l.total ≡ sum (take l.k l.out);
  small : l.total ≤ 255 * l.k;
}
