use Rattle.std.proofs.Common.{◌≡◌, false}
use Rattle.core_tests.proofs.turns.work.Given as goal

abbrev pub invariant-loop : goal.invariant-loop
invariant-loop g l = (l.pass.turn ≡ l.turn) × (l.pass.holds ≡ false)
