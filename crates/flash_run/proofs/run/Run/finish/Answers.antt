use Rattle.flash_run.proofs.Ends.{all_ended, end_falls, end_room, ending_next, finishes}
use Rattle.flash_run.proofs.run.Run.finish.Goals as goal

pub note-requires-clause-room : goal.note-requires-clause-room
note-requires-clause-room c = end_room c.loop-next.self c.in-Some.next.0 c.in-Some.next.1 c.is_kept.ensures c.in-Some.ensures.0 c.in-Some.ensures.1.0

pub loop-next-smaller : goal.loop-next-smaller
loop-next-smaller c = end_falls c.loop-next.self c.note.new.self c.in-Some.next.0 c.in-Some.next.1 c.is_kept.ensures c.in-Some.ensures.0 c.in-Some.ensures.1.0 c.note.ensures

pub loop-next-preserved : goal.loop-next-preserved
loop-next-preserved c = ending_next c.args.self.now c.loop-next.self c.note.new.self c.in-Some.next.0 c.in-Some.next.1 c.loop-next.invariant c.is_kept.ensures c.in-Some.ensures.1 c.note.ensures

pub returns-clause-finishes : goal.returns-clause-finishes
returns-clause-finishes c = finishes c.args.self.now c.loop-next.self c.loop-next.invariant (all_ended c.loop-next.self c.is_kept-2.ensures.accepted c.loop-next.invariant.over c.in_default.ensures)

pub returns-clause-ended : goal.returns-clause-ended
returns-clause-ended c = all_ended c.loop-next.self c.is_kept-2.ensures.accepted c.loop-next.invariant.over c.in_default.ensures
