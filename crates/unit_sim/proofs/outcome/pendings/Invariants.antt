use Rattle.std.proofs.Common.{◌≡◌, ◌+◌, ◌-◌, ◌*◌, ◌++◌}
use Rattle.unit_model.specs.Step.{pendings}
use Rattle.unit_sim.specs.Done.{turns}
use Rattle.unit_sim.proofs.outcome.pendings.Given as goal

abbrev pub invariant-loop-i : goal.invariant-loop-i
invariant-loop-i l = record {
  turn : l.turn ≡ l.tick + l.ticks * l.i;
  said : l.replies.items ++ pendings l.sid (turns l.turn l.ticks (l.times - l.i)) ≡ pendings l.sid (turns l.tick l.ticks l.times);
}
