use Rattle.std.proofs.Common.{◌≡◌, false}
use Rattle.bench.proofs.turn.by_turn.work.Given as goal

abbrev pub invariant-loop : goal.invariant-loop
invariant-loop g l = (l.pass.turn ≡ l.initial.pass.turn) × (l.pass.holds ≡ false) × (l.pass.first ≡ l.initial.pass.first) × (l.pass.others ≡ l.initial.pass.others)
