use Rattle.std.proofs.Common.{◌≡◌, ◌++◌, map, take, drop}
use Rattle.unit_sim.specs.Acting.{lowered}
use Rattle.unit_sim.proofs.trouble.count.Given as goal

abbrev pub invariant-loop-i : goal.invariant-loop-i
invariant-loop-i l = l.troubles.items ≡ map (lowered l.sid) (take l.i l.initial.troubles.items) ++ drop l.i l.initial.troubles.items
