use Rattle.std.proofs.Common.{◌≡◌, ◌-◌, ◌≤◌, ◌++◌, take, length}
use Rattle.doip_frame.specs.Deframe.{EndsThere}
use Rattle.doip_frame.specs.Frame.{cut_frame}
use Rattle.doip_frame.proofs.deframer.fill.Given as goal

abbrev pub invariant-loop-used : goal.invariant-loop-used
invariant-loop-used l = record {
  within : l.used ≤ length l.piece;
  held : l.held.items ≡ l.initial.held.items ++ take l.used l.piece;
  ends : EndsThere (cut_frame l.held.items);
}

abbrev pub decreases-loop-used : goal.decreases-loop-used
decreases-loop-used l = length l.piece - l.used
