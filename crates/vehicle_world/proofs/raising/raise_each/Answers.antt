use Rattle.std.proofs.Common.{◌<◌, arith, length}
use Rattle.vehicle_world.specs.States.{answer_of, node_sim}
use Rattle.vehicle_world.specs.Worlds.{raised}
use Rattle.vehicle_world.proofs.Changes.{changed}
use Rattle.vehicle_world.proofs.raising.raise_each.Goals as goal

pub loop-i-preserved : goal.loop-i-preserved
loop-i-preserved c =
    let lt : c.loop-i.i < length c.args.units.now.items = omega arith in
    changed node_sim (raised c.args.tick (answer_of c.args.held.now)) c.loop-i.units.items c.args.units.now.items c.loop-i.i c.index_mut.result.now c.raise.new.node c.loop-i.invariant lt c.index_mut.ensures.value c.raise.ensures
