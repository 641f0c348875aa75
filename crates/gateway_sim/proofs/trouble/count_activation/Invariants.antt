use Rattle.std.proofs.Common.{◌≡◌, ◌++◌, map, take, drop}
use Rattle.gateway_sim.specs.Acting.{lowered_activation}
use Rattle.gateway_sim.proofs.trouble.count_activation.Given as goal

abbrev pub invariant-loop-i : goal.invariant-loop-i
invariant-loop-i l = l.troubles.items ≡ map lowered_activation (take l.i l.initial.troubles.items) ++ drop l.i l.initial.troubles.items
