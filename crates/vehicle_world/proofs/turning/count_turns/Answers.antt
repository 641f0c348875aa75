use Rattle.std.proofs.Common.{◌<◌, arith, length}
use Rattle.vehicle_world.specs.Holding.{held_once}
use Rattle.vehicle_world.specs.States.{answer_of}
use Rattle.vehicle_world.proofs.Changes.{changed, below_more}
use Rattle.vehicle_world.proofs.turning.count_turns.Goals as goal

pub loop-i-preserved : goal.loop-i-preserved
loop-i-preserved c =
    let lt : c.loop-i.i < length c.args.held.now.items = omega arith in
    record {
      are = changed answer_of (held_once c.args.tick) c.loop-i.held.items c.args.held.now.items c.loop-i.i c.index_mut.result.now c.count_turn.new.held c.loop-i.invariant.are lt c.index_mut.ensures.value c.count_turn.ensures;
      below = below_more c.loop-i.i c.loop-i.held.items c.count_turn.new.held c.loop-i.invariant.below;
    }
