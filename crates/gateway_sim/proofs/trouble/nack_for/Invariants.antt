use Rattle.std.proofs.Common.{◌≡◌, drop}
use Rattle.gateway_sim.specs.Acting.{nack_for}
use Rattle.gateway_sim.proofs.trouble.nack_for.Given as goal

abbrev pub invariant-loop-trouble : goal.invariant-loop-trouble
invariant-loop-trouble l = nack_for l.target (drop l.trouble-index l.troubles) ≡ nack_for l.target l.troubles
