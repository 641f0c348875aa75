use Rattle.std.proofs.Common.{◌∙◌, ap, map}
use Rattle.gateway_sim.specs.Gates.{gate_of}
use Rattle.vehicle_world.specs.Running.{HasBody}
use Rattle.vehicle_world.specs.States.{State, reply_of}
use Rattle.vehicle_world.specs.Worlds.{state_of}
use Rattle.vehicle_world.proofs.Calling.{each_at, on_err, map_err, queued_same, refused_same}
use Rattle.vehicle_world.proofs.Framewise.{at_end, stopped, went_on}
use Rattle.vehicle_world.proofs.Kept.{frame_keeps}
use Rattle.vehicle_world.proofs.world.World.handle_all.Goals as goal

pub returns-in_err-handle-clause-err : goal.returns-in_err-handle-clause-err
returns-in_err-handle-clause-err c =
    on_err c.from_residual.result _ (stopped c.args.fed.now.frames c.loop-i.i c.at.result.now _ (state_of c.loop-i.self) (map reply_of c.loop-i.out.items) _ c.at.ensures c.loop-i.invariant.went c.in_err-handle.ensures.err)

pub loop-i-preserved : goal.loop-i-preserved
loop-i-preserved c = record {
  went = went_on c.args.fed.now.frames c.loop-i.i c.at.result.now _ (state_of c.loop-i.self) _ (map reply_of c.loop-i.out.items) _ c.at.ensures c.loop-i.invariant.went c.in_ok-handle.ensures.ok c.in_ok-handle.ensures.handles;
  bodies = (each_at HasBody c.args.fed.now.frames c.loop-i.i c.at.result.now c.at.ensures c.loop-i.invariant.bodies).1;
  tick = ap (λ (s : State). s.gate.gateway.tick) c.in_ok-handle.ensures.ok.state ∙ (frame_keeps c.at.result.now (state_of c.loop-i.self)).tick ∙ c.loop-i.invariant.tick;
}

pub returns-in_err-refuse_header-clause-err : goal.returns-in_err-refuse_header-clause-err
returns-in_err-refuse_header-clause-err c =
    on_err c.from_residual-in_err-refuse_header.result _
    (at_end c.args.fed.now.frames c.loop-i.i _ (state_of c.loop-i.self) (map reply_of c.loop-i.out.items) _ c.loop-i.invariant.went
    (refused_same (state_of c.loop-i.self) (gate_of c.refuse_header.new.self) c.in_err-refuse_header.ensures.err))

pub returns-clause-err : goal.returns-clause-err
returns-clause-err c =
    map_err c.queue_all.result _ _
    (λ e. at_end c.args.fed.now.frames c.loop-i.i _ (state_of c.loop-i.self) (map reply_of c.loop-i.out.items) _ c.loop-i.invariant.went
    (queued_same (state_of c.loop-i.self) c.args.fed.now.bad (gate_of c.refuse_header.new.self) (gate_of c.queue_all.new.gate) c.in_ok-refuse_header.ensures.ok e))
    c.queue_all.ensures.err
