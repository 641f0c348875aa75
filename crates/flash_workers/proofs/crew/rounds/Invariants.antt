use Rattle.std.proofs.Common.{◌≤◌, length}
use Rattle.flash_workers.specs.Crew.{IsCrew, Follows}
use Rattle.flash_workers.proofs.crew.rounds.Given as goal

abbrev pub invariant-loop : goal.invariant-loop
invariant-loop g l = IsCrew l.turn l.plan l.first l.crew.items × (1 ≤ length l.crew.items) × Follows l.initial.first l.first
