use Rattle.std.proofs.Common.{◌≡◌, drop}
use Rattle.unit_model.specs.Poll.{has_tick}
use Rattle.gateway_sim.specs.Acting.{alive_of}
use Rattle.gateway_sim.proofs.trouble.has_alive.Given as goal

abbrev pub invariant-loop-trouble : goal.invariant-loop-trouble
invariant-loop-trouble l = has_tick l.now (alive_of (drop l.trouble-index l.troubles)) ≡ has_tick l.now (alive_of l.troubles)
