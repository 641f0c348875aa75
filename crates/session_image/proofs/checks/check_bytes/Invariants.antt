use Rattle.std.proofs.Common.{◌≡◌, ◌≤◌, drop, length}
use Rattle.session_image.specs.Checks.{check_bytes}
use Rattle.session_image.proofs.checks.check_bytes.Given as goal

abbrev pub invariant-loop-left : goal.invariant-loop-left
invariant-loop-left l = record {
  within : l.left ≤ length l.pieces;
  size : length l.out.items ≡ l.size;
  laid : l.out.items ≡ check_bytes (drop l.left l.pieces) l.fn.fill l.from l.size;
}

abbrev pub decreases-loop-left : goal.decreases-loop-left
decreases-loop-left l = l.left
