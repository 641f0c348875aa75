use Rattle.mem_disk.proofs.Crashes.{FilledUpTo}
use Rattle.mem_disk.proofs.crash.filled.Given as goal

abbrev pub invariant-loop-i : goal.invariant-loop-i
invariant-loop-i l = FilledUpTo l.old l.size l.at l.n l.byte l.i l.image.items
