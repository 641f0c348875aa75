use Rattle.flash_run.proofs.Ends.{IsEnding}
use Rattle.flash_run.proofs.run.Run.finish.Given as goal

abbrev pub invariant-loop-next : goal.invariant-loop-next
invariant-loop-next l = IsEnding l.initial.self l.self

abbrev pub decreases-loop-next : goal.decreases-loop-next
decreases-loop-next l = l.self.room
