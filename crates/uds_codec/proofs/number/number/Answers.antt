use Rattle.std.proofs.Common.{arith}
use Rattle.uds_codec.proofs.Numbers.{small_power}
use Rattle.uds_codec.proofs.number.number.Goals as goal

pub overflow_mul-n : goal.overflow_mul-n
overflow_mul-n c = let s = small_power c.loop-i.i c.loop-i.n (omega arith) c.loop-i.invariant.small in omega arith
