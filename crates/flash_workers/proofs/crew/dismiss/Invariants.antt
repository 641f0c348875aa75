use Rattle.std.proofs.Common.{vec_len}
use Rattle.flash_workers.specs.Crew.{IsCrew, Follows}
use Rattle.flash_workers.proofs.crew.dismiss.Given as goal

abbrev pub invariant-loop-worker : goal.invariant-loop-worker
invariant-loop-worker g l = IsCrew l.turn l.plan l.first l.crew.items × Follows l.initial.first l.first

abbrev pub decreases-loop-worker : goal.decreases-loop-worker
decreases-loop-worker g l = vec_len l.crew
