use Rattle.unit_session.specs.Session.{IsOf}
use Rattle.core_tests.proofs.sessions.exchanges.Given as goal

abbrev pub invariant-loop-request : goal.invariant-loop-request
invariant-loop-request g l = IsOf l.unit l.session
