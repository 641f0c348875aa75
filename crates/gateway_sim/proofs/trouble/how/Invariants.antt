use Rattle.std.proofs.Common.{◌≡◌, drop}
use Rattle.gateway_sim.specs.Acting.{how}
use Rattle.gateway_sim.proofs.trouble.how.Given as goal

abbrev pub invariant-loop-trouble : goal.invariant-loop-trouble
invariant-loop-trouble l = how (drop l.trouble-index l.troubles) ≡ how l.troubles
