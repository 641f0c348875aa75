use Rattle.std.proofs.Common.{length}
use Rattle.ecu_mem.proofs.refusal.+comes_before.Given as goal

abbrev pub decreases-comes_before : goal.decreases-comes_before
decreases-comes_before l = length l.one.now
