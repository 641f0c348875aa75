use Rattle.std.proofs.Common.{◌≡◌, ◌≤◌, length, vec_capacity}
use Rattle.flash_workers.specs.Crew.{IsCrew, Follows}
use Rattle.flash_workers.proofs.crew.hire.Given as goal

abbrev pub invariant-loop-hired : goal.invariant-loop-hired
invariant-loop-hired g l = IsCrew l.turn l.plan l.first l.crew.items × (length l.crew.items ≡ l.hired) × (l.workers ≤ vec_capacity l.crew) × Follows l.initial.first l.first
