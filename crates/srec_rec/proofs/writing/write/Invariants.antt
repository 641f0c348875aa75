use Rattle.std.proofs.Common.{◌-◌, ◌^◌}
use Rattle.srec_rec.proofs.Lines.{Progress}
use Rattle.srec_rec.proofs.writing.write.Given as goal

abbrev pub invariant-loop-at : goal.invariant-loop-at
invariant-loop-at l = Progress l.spans l.here l.text

abbrev pub decreases-loop-at : goal.decreases-loop-at
decreases-loop-at l = 2 ^ 32 - l.here
