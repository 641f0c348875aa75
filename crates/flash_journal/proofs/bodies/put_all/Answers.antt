use Rattle.std.proofs.Common.{arith}
use Rattle.flash_journal.proofs.Groups.{bodies_more}
use Rattle.flash_journal.proofs.bodies.put_all.Goals as goal

pub loop-i-preserved : goal.loop-i-preserved
loop-i-preserved c = record {
  room = omega (arith, c.loop-i.invariant.room, c.put.auto.bytes);
  filled = bodies_more c.loop-i.bytes c.put.new.bytes c.spelling.result c.args.entries.now c.loop-i.i c.loop-i-test.true c.spelling.ensures c.loop-i.invariant.filled c.put.ensures;
}
