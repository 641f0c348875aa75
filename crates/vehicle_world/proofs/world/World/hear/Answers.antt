use Rattle.std.proofs.Common.{◌∙◌, ap, arith, inl, inr, length, map, refl, set}
use Rattle.unit_sim.proofs.Committing.{first_byte}
use Rattle.vehicle_world.specs.States.{forgotten, node_sim, reply_of}
use Rattle.vehicle_world.specs.Feeding.{Ran}
use Rattle.vehicle_world.specs.Worlds.{state_of}
use Rattle.vehicle_world.specs.States.{State}
use Rattle.vehicle_world.specs.Running.{Adds}
use Rattle.std.proofs.Common.{subst}
use Rattle.vehicle_world.proofs.Calling.{hears_so, map_err, map_ok, none_adds, none_steps, on_err, on_ok, steps_in, unheard_sims}
use Rattle.vehicle_world.proofs.Meeting.{are_replies}
use Rattle.vehicle_world.proofs.Places.{in_nodes, not_in_nodes, within_nodes}
use Rattle.vehicle_world.proofs.world.World.hear.Goals as goal

pub returns-in_default-clause-step : goal.returns-in_default-clause-step
returns-in_default-clause-step c =
    let n = not_in_nodes c.args.unit c.args.self.now.units.items c.deref.result.now c.place_of.result c.deref.ensures.value c.place_of.ensures c.in_default.is in
    none_steps c.args.unit c.args.body.now _ _ n

pub returns-in_default-clause-ok : goal.returns-in_default-clause-ok
returns-in_default-clause-ok c =
    let n = not_in_nodes c.args.unit c.args.self.now.units.items c.deref.result.now c.place_of.result c.deref.ensures.value c.place_of.ensures c.in_default.is in
    none_adds c.args.unit c.args.body.now (state_of c.args.self.now) _ (map reply_of c.args.out.now.items) n

pub index_mut-requires : goal.index_mut-requires
index_mut-requires c =
    let f = in_nodes c.args.unit c.args.self.now.units.items c.deref.result.now c.place_of.result c.in-Some.place c.deref.ensures.value c.place_of.ensures c.in-Some.is in
    let within = within_nodes c.args.unit c.args.self.now.units.items c.in-Some.place f in
    let long = ap length c.deref.ensures.value in
    omega (arith, within, long, c.deref.ensures.len)

pub returns-in_err-replies-clause-err : goal.returns-in_err-replies-clause-err
returns-in_err-replies-clause-err c =
    let sims = unheard_sims c.args.self.now.units.items c.in-Some.place c.index_mut.result.now c.hear.new.self c.index_mut.ensures.value c.in_err-replies.ensures.err in
    on_err c.from_residual.result _ (inl (λ i. forgotten (record (state_of c.args.self.now) { sims = sims i })))

pub gather-requires : goal.gather-requires
gather-requires c = are_replies _ _ _ _ _ c.in_ok-replies.ensures.step

pub returns-clause-step : goal.returns-clause-step
returns-clause-step c =
    let f = in_nodes c.args.unit c.args.self.now.units.items c.deref.result.now c.place_of.result c.in-Some.place c.deref.ensures.value c.place_of.ensures c.in-Some.is in
    on_ok c.gather.result _
    (steps_in c.args.unit c.args.body.now (state_of c.args.self.now) c.args.self.now.units.items c.in-Some.place c.index_mut.result.now c.hear.new.self c.in_ok-replies.replies.items c.tick-tick.result
    f c.index_mut.ensures.value c.tick-tick.ensures c.in_ok-replies.ensures.replies c.in_ok-replies.ensures.state c.in_ok-replies.ensures.step)

pub returns-clause-ok : goal.returns-clause-ok
returns-clause-ok c =
    let f = in_nodes c.args.unit c.args.self.now.units.items c.deref.result.now c.place_of.result c.in-Some.place c.deref.ensures.value c.place_of.ensures c.in-Some.is in
    let s = state_of c.args.self.now in
    let mid : State = record s { sims = map node_sim (set c.args.self.now.units.items c.in-Some.place c.hear.new.self) } in
    let so = hears_so c.args.unit c.args.body.now s c.args.self.now.units.items c.in-Some.place c.index_mut.result.now c.hear.new.self c.in_ok-replies.replies.items c.tick-tick.result
    f c.index_mut.ensures.value c.tick-tick.ensures c.in_ok-replies.ensures.replies c.in_ok-replies.ensures.state _ mid (first_byte c.args.body.now c.requires.some) refl refl in
    map_ok c.gather.result _ _ (λ a. subst (λ (r : Ran). Adds r (map reply_of c.args.out.now.items) (state_of c.gather.new.self) (map reply_of c.gather.new.out.items)) so a) c.gather.ensures.ok

pub returns-clause-err : goal.returns-clause-err
returns-clause-err c =
    let f = in_nodes c.args.unit c.args.self.now.units.items c.deref.result.now c.place_of.result c.in-Some.place c.deref.ensures.value c.place_of.ensures c.in-Some.is in
    let s = state_of c.args.self.now in
    let mid : State = record s { sims = map node_sim (set c.args.self.now.units.items c.in-Some.place c.hear.new.self) } in
    let so = hears_so c.args.unit c.args.body.now s c.args.self.now.units.items c.in-Some.place c.index_mut.result.now c.hear.new.self c.in_ok-replies.replies.items c.tick-tick.result
    f c.index_mut.ensures.value c.tick-tick.ensures c.in_ok-replies.ensures.replies c.in_ok-replies.ensures.state _ mid (first_byte c.args.body.now c.requires.some) refl refl in
    let step = steps_in c.args.unit c.args.body.now s c.args.self.now.units.items c.in-Some.place c.index_mut.result.now c.hear.new.self c.in_ok-replies.replies.items c.tick-tick.result
    f c.index_mut.ensures.value c.tick-tick.ensures c.in_ok-replies.ensures.replies c.in_ok-replies.ensures.state c.in_ok-replies.ensures.step in
    map_err c.gather.result _ _ (λ e. inr (record { step = step; leaves = e ∙ ap (λ (r : Ran). forgotten r.0) so })) c.gather.ensures.err
