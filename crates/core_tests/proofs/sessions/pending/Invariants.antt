use Rattle.unit_session.specs.Session.{IsOf}
use Rattle.core_tests.proofs.sessions.pending.Given as goal

abbrev pub invariant-loop-i : goal.invariant-loop-i
invariant-loop-i g l = IsOf l.unit l.s
