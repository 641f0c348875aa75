use Rattle.std.proofs.Common.{ap, arith, length, sym}
use Rattle.vehicle_world.specs.Feeding.{nacked}
use Rattle.vehicle_world.specs.Worlds.{state_of}
use Rattle.vehicle_world.proofs.Places.{in_nodes, not_in_nodes, put_back, within_nodes}
use Rattle.vehicle_world.proofs.world.World.nack.Goals as goal

pub index_mut-requires : goal.index_mut-requires
index_mut-requires c =
    let f = in_nodes c.args.unit c.args.self.now.units.items c.deref.result.now c.place_of.result c.in-Some.place c.deref.ensures.value c.place_of.ensures c.in-Some.is in
    let within = within_nodes c.args.unit c.args.self.now.units.items c.in-Some.place f in
    let long = ap length c.deref.ensures.value in
    omega (arith, within, long, c.deref.ensures.len)

pub returns : goal.returns
returns c =
    let f = in_nodes c.args.unit c.args.self.now.units.items c.deref.result.now c.place_of.result c.in-Some.place c.deref.ensures.value c.place_of.ensures c.in-Some.is in
    λ i. record (state_of c.args.self.now) { sims = put_back c.args.unit c.args.self.now.units.items c.in-Some.place (nacked c.args.code) c.index_mut.result.now c.nack.new.self f c.index_mut.ensures.value c.nack.ensures i }

pub returns-in_default : goal.returns-in_default
returns-in_default c =
    let n = not_in_nodes c.args.unit c.args.self.now.units.items c.deref.result.now c.place_of.result c.deref.ensures.value c.place_of.ensures c.in_default.is in
    λ i. record (state_of c.args.self.now) { sims = sym (n.change (nacked c.args.code)) i }
