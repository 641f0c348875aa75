use Rattle.std.proofs.Common.{◌≡◌, drop}
use Rattle.gateway_sim.specs.Feeding.{is_one}
use Rattle.gateway_sim.proofs.parts.is_one.Given as goal

abbrev pub invariant-loop-unit : goal.invariant-loop-unit
invariant-loop-unit l = is_one l.target (drop l.unit-index l.units) ≡ is_one l.target l.units
