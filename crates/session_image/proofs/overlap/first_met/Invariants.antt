use Rattle.std.proofs.Common.{◌≡◌, drop}
use Rattle.session_image.specs.Targets.{first_met}
use Rattle.session_image.proofs.overlap.first_met.Given as goal

abbrev pub invariant-loop-target : goal.invariant-loop-target
invariant-loop-target l = first_met 0 l.targets ≡ first_met l.reached (drop l.target-index l.targets)
