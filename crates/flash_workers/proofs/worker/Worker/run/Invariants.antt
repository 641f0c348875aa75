use Rattle.flash_workers.specs.Crew.{IsAtRest, HasUnit}
use Rattle.flash_workers.proofs.worker.Worker.run.Given as goal

abbrev pub invariant-loop : goal.invariant-loop
invariant-loop g l = IsAtRest l.turn l.plan l.self.pass × HasUnit l.plan l.self.unit
