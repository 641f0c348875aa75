use Rattle.std.proofs.Common.{◌≡◌, ◌++◌, length, map}
use Rattle.flash_base.specs.Lists.{Each}
use Rattle.unit_model.specs.Feed.{due_replies, held_answers}
use Rattle.vehicle_world.specs.Feeding.{all_met}
use Rattle.vehicle_world.specs.Running.{IsReply}
use Rattle.vehicle_world.specs.States.{answer_of, node_sim, reply_of}
use Rattle.vehicle_world.proofs.keeping.keep.Given as goal

abbrev pub invariant-loop-reply : goal.invariant-loop-reply
invariant-loop-reply l = record {
  are : Each IsReply l.rest.items;
  out : map reply_of l.initial.out.items ++ due_replies l.hearing.unit (all_met (map node_sim l.units) l.hearing.tick l.fn.replies.items)
      ≡ map reply_of l.out.items ++ due_replies l.hearing.unit (all_met (map node_sim l.units) l.hearing.tick l.rest.items);
  held : map answer_of l.initial.held.items ++ held_answers l.hearing.tick l.hearing.unit l.hearing.sid (all_met (map node_sim l.units) l.hearing.tick l.fn.replies.items)
      ≡ map answer_of l.held.items ++ held_answers l.hearing.tick l.hearing.unit l.hearing.sid (all_met (map node_sim l.units) l.hearing.tick l.rest.items);
}

abbrev pub decreases-loop-reply : goal.decreases-loop-reply
decreases-loop-reply l = length l.rest.items
