use Rattle.std.specs.Prelude.{IfSome}
use Rattle.flash_workers.specs.Crew.{HasUnit, IsAtRest, IsReadyOf}
use Rattle.flash_workers.proofs.worker.Worker.serve.Given as goal

abbrev pub invariant-loop : goal.invariant-loop
invariant-loop g l = IsAtRest l.turn l.plan l.self.pass × HasUnit l.plan l.self.unit × IfSome l.ready (IsReadyOf l.self.pass.opening l.unit)
