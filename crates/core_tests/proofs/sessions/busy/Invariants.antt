use Rattle.unit_session.specs.Session.{IsOf}
use Rattle.core_tests.proofs.sessions.busy.Given as goal

abbrev pub invariant-loop : goal.invariant-loop
invariant-loop g l = IsOf l.unit l.session
