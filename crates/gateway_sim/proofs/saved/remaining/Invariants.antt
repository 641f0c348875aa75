use Rattle.std.proofs.Common.{◌≡◌, ◌++◌, drop}
use Rattle.gateway_sim.specs.Saving.{left_at}
use Rattle.gateway_sim.proofs.saved.remaining.Given as goal

abbrev pub invariant-loop-trouble : goal.invariant-loop-trouble
invariant-loop-trouble l = left_at l.now l.troubles ≡ l.made ++ left_at l.now (drop l.trouble-index l.troubles)
