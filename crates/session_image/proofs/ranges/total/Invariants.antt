use Rattle.std.proofs.Common.{◌≡◌, ◌+◌, ◌≤◌, drop}
use Rattle.session_image.specs.Pieces.{total}
use Rattle.session_image.proofs.ranges.total.Given as goal

abbrev pub invariant-loop-range : goal.invariant-loop-range
invariant-loop-range l = record {
  sum : total l.ranges ≡ l.total + total (drop l.range-index l.ranges);
  fits : l.total ≤ l.room;
}
