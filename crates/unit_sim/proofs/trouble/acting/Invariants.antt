use Rattle.std.proofs.Common.{◌≡◌, drop}
use Rattle.unit_sim.specs.Acting.{acting}
use Rattle.unit_sim.proofs.trouble.acting.Given as goal

abbrev pub invariant-loop-trouble : goal.invariant-loop-trouble
invariant-loop-trouble l = acting l.sid (drop l.trouble-index l.troubles) ≡ acting l.sid l.troubles
