use Rattle.std.proofs.Common.{arith}
use Rattle.std.proofs.Math.ListN.{length-set}
use Rattle.uds_codec.proofs.Numbers.{written_before}
use Rattle.uds_codec.proofs.number.put_number.Goals as goal

pub loop-i-preserved : goal.loop-i-preserved
loop-i-preserved g c = record {
  within = omega arith;
  size = simp length-set c.loop-i.invariant.size;
  whole = written_before c.loop-i.i g.row.N c.args.value c.loop-i.rest c.loop-i.bytes c.loop-i-test.true (omega (arith, c.loop-i.invariant.size, c.loop-i.invariant.within)) c.loop-i.invariant.whole;
}
