use Rattle.std.proofs.Common.{◌≤◌}
use Rattle.folder_shop.specs.Moments.{tick_of}
use Rattle.folder_shop.proofs.opening.behind.Given as goal

abbrev pub invariant-loop-i : goal.invariant-loop-i
invariant-loop-i l = tick_of l.world ≤ l.i
