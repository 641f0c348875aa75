use Rattle.std.proofs.Common.{◌≡◌, ◌∙◌, ap, subst, sym}
use Rattle.flash_base.specs.Lists.{Each}
use Rattle.doip_frame.specs.Deframe.{bad_in}
use Rattle.gateway_sim.specs.Feeding.{cut_off, ended}
use Rattle.gateway_sim.specs.Gates.{front_of, gate_of}
use Rattle.unit_model.specs.Vehicle.{Vehicle}
use Rattle.vehicle_world.specs.Running.{HasBody, WentAll, WentPart}
use Rattle.vehicle_world.specs.States.{forgotten, vehicle_in}
use Rattle.vehicle_world.specs.Worlds.{state_of}
use Rattle.vehicle_world.proofs.Bodies.{have_bodies}
use Rattle.vehicle_world.proofs.Fed.{all_tick, broken, deaf_none, feeds, moved_all, moved_part, tick_same}
use Rattle.vehicle_world.proofs.Shaped.{all_keep, part_keeps}
use Rattle.vehicle_world.proofs.Nothing.{nothing_is_fed, partial_is}
use Rattle.vehicle_world.proofs.world.World.feed.Goals as goal

pub returns-in_default-clause-err : goal.returns-in_default-clause-err
returns-in_default-clause-err c =
    let v = vehicle_in (state_of c.args.self.now) in
    record {
      count = 0;
      mid = v;
      feeds = nothing_is_fed v (partial_is _ c.args.self.now.gate.partial);
      broken = c.redial.ensures.vehicle ∙ (λ i. forgotten (record (state_of c.args.self.now) { gate = c.in_default.ensures.err i }));
    }

pub handle_all-requires-clause-bodies : goal.handle_all-requires-clause-bodies
handle_all-requires-clause-bodies c = subst (Each HasBody) (sym c.in-Ok.ensures.frames) (have_bodies (front_of (state_of c.args.self.now).gate.gateway) c.args.bytes.now)

pub returns-in-Ok-handle_all-clause-ok : goal.returns-in-Ok-handle_all-clause-ok
returns-in-Ok-handle_all-clause-ok c =
    let old = state_of c.args.self.now in
    let new = state_of c.handle_all.new.self in
    let bytes = c.args.bytes.now in
    let mid_is : record old { gate = gate_of c.cut.new.self } ≡ record old { gate = cut_off old.gate bytes } = λ i. record old { gate = c.in-Ok.ensures.ok i } in
    let w : WentAll (ended old.gate bytes) (bad_in (front_of old.gate.gateway) bytes) (record old { gate = cut_off old.gate bytes }) new =
    moved_all _ _ _ _ (record old { gate = gate_of c.cut.new.self }) _ new c.in-Ok.ensures.frames c.in-Ok.ensures.bad mid_is c.in-Ok-handle_all.ensures.ok in
    feeds bytes old new (deaf_none c.args.self.now.gate.deframer) w

pub returns-in-Ok-handle_all-clause-tick : goal.returns-in-Ok-handle_all-clause-tick
returns-in-Ok-handle_all-clause-tick c =
    let old = state_of c.args.self.now in
    let new = state_of c.handle_all.new.self in
    let bytes = c.args.bytes.now in
    let mid_is : record old { gate = gate_of c.cut.new.self } ≡ record old { gate = cut_off old.gate bytes } = λ i. record old { gate = c.in-Ok.ensures.ok i } in
    let w : WentAll (ended old.gate bytes) (bad_in (front_of old.gate.gateway) bytes) (record old { gate = cut_off old.gate bytes }) new =
    moved_all _ _ _ _ (record old { gate = gate_of c.cut.new.self }) _ new c.in-Ok.ensures.frames c.in-Ok.ensures.bad mid_is c.in-Ok-handle_all.ensures.ok in
    all_tick bytes old _ _ new w

pub returns-in-Ok-handle_all-clause-shapes : goal.returns-in-Ok-handle_all-clause-shapes
returns-in-Ok-handle_all-clause-shapes c =
    let old = state_of c.args.self.now in
    let new = state_of c.handle_all.new.self in
    let bytes = c.args.bytes.now in
    let mid_is : record old { gate = gate_of c.cut.new.self } ≡ record old { gate = cut_off old.gate bytes } = λ i. record old { gate = c.in-Ok.ensures.ok i } in
    let w : WentAll (ended old.gate bytes) (bad_in (front_of old.gate.gateway) bytes) (record old { gate = cut_off old.gate bytes }) new =
    moved_all _ _ _ _ (record old { gate = gate_of c.cut.new.self }) _ new c.in-Ok.ensures.frames c.in-Ok.ensures.bad mid_is c.in-Ok-handle_all.ensures.ok in
    all_keep _ _ _ new w

pub returns-clause-err : goal.returns-clause-err
returns-clause-err c =
    let old = state_of c.args.self.now in
    let new : Vehicle = vehicle_in (state_of c.redial-in-Err.new.self) in
    let bytes = c.args.bytes.now in
    let mid_is : record old { gate = gate_of c.cut.new.self } ≡ record old { gate = cut_off old.gate bytes } = λ i. record old { gate = c.in-Ok.ensures.ok i } in
    let w : WentPart (ended old.gate bytes) (record old { gate = cut_off old.gate bytes }) new =
    moved_part _ _ (record old { gate = gate_of c.cut.new.self }) _ (forgotten (state_of c.handle_all.new.self)) new c.in-Ok.ensures.frames mid_is c.redial-in-Err.ensures.vehicle c.in-Err.ensures.err in
    broken bytes old new (partial_is _ c.args.self.now.gate.partial) w

pub returns-clause-tick : goal.returns-clause-tick
returns-clause-tick c =
    let old = state_of c.args.self.now in
    let new : Vehicle = vehicle_in (state_of c.redial-in-Err.new.self) in
    let bytes = c.args.bytes.now in
    let mid_is : record old { gate = gate_of c.cut.new.self } ≡ record old { gate = cut_off old.gate bytes } = λ i. record old { gate = c.in-Ok.ensures.ok i } in
    let w : WentPart (ended old.gate bytes) (record old { gate = cut_off old.gate bytes }) new =
    moved_part _ _ (record old { gate = gate_of c.cut.new.self }) _ (forgotten (state_of c.handle_all.new.self)) new c.in-Ok.ensures.frames mid_is c.redial-in-Err.ensures.vehicle c.in-Err.ensures.err in
    ap (λ (v : Vehicle). v.gateway.tick) w.leaves ∙ tick_same bytes old _ w.now w.out w.went

pub returns-clause-shapes : goal.returns-clause-shapes
returns-clause-shapes c =
    let old = state_of c.args.self.now in
    let new : Vehicle = vehicle_in (state_of c.redial-in-Err.new.self) in
    let bytes = c.args.bytes.now in
    let mid_is : record old { gate = gate_of c.cut.new.self } ≡ record old { gate = cut_off old.gate bytes } = λ i. record old { gate = c.in-Ok.ensures.ok i } in
    let w : WentPart (ended old.gate bytes) (record old { gate = cut_off old.gate bytes }) new =
    moved_part _ _ (record old { gate = gate_of c.cut.new.self }) _ (forgotten (state_of c.handle_all.new.self)) new c.in-Ok.ensures.frames mid_is c.redial-in-Err.ensures.vehicle c.in-Err.ensures.err in
    part_keeps _ _ new w
