use Rattle.std.proofs.Common.{◌≤◌, length}
use Rattle.bench.proofs.replay.plan_of.Given as goal

abbrev pub invariant-loop-i : goal.invariant-loop-i
invariant-loop-i l = 1 ≤ length l.body
