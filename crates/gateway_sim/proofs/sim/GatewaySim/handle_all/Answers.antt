use Rattle.std.proofs.Common.{◌≡◌, ◌∙◌, ◌≤◌, ap, length, arith}
use Rattle.gateway_sim.specs.Gates.{gate_of}
use Rattle.gateway_sim.specs.Handling.{refusing}
use Rattle.gateway_sim.proofs.Framewise.{goes_on, stopped, on_err}
use Rattle.gateway_sim.proofs.sim.GatewaySim.handle_all.Goals as goal

pub returns-in_err-handle_one-clause-err : goal.returns-in_err-handle_one-clause-err
returns-in_err-handle_one-clause-err c = on_err _ _ (stopped c.args.fed.now.frames c.loop-i.i c.at.result.now _ _ _ _ c.at.ensures c.loop-i.invariant c.in_err-handle_one.ensures.err)

pub loop-i-preserved : goal.loop-i-preserved
loop-i-preserved c = goes_on c.args.fed.now.frames c.loop-i.i c.at.result.now _ _ _ _ _ c.at.ensures c.loop-i.invariant c.in_ok-handle_one.ensures.ok
