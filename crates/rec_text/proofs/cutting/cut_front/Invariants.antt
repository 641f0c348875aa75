use Rattle.std.proofs.Common.{◌+◌, ◌-◌, ◌^◌, ◌≤◌, length, take}
use Rattle.span_store.specs.ByteMap.{Holds}
use Rattle.rec_text.proofs.cutting.cut_front.Given as goal

abbrev pub invariant-loop-n : goal.invariant-loop-n
invariant-loop-n l = record {
  small : l.n ≤ l.most;
  stored : l.n ≤ length l.line;
  within : l.at + l.n ≤ 2 ^ 32;
  held : Holds l.spans l.at (take l.n l.line);
}

abbrev pub decreases-loop-n : goal.decreases-loop-n
decreases-loop-n l = l.most - l.n
