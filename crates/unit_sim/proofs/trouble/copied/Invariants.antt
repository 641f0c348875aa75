use Rattle.std.proofs.Common.{◌≡◌, take}
use Rattle.unit_sim.proofs.trouble.copied.Given as goal

abbrev pub invariant-loop-trouble : goal.invariant-loop-trouble
invariant-loop-trouble l = l.made.items ≡ take l.trouble-index l.troubles
