use Rattle.std.proofs.Common.{length}
use Rattle.flash_shelf.proofs.stream.put_all.Given as goal

abbrev pub decreases-loop-rest : goal.decreases-loop-rest
decreases-loop-rest g l = length l.rest
