use Rattle.std.proofs.Common.{◌≡◌, ◌++◌, length}
use Rattle.std.specs.Vec.Iter.{into_iter_items}
use Rattle.world_file.specs.Said.{all_settled}
use Rattle.world_file.proofs.all_settled.Given as goal

abbrev pub invariant-loop-unit : goal.invariant-loop-unit
invariant-loop-unit l = l.made ++ all_settled (into_iter_items l.rest) ≡ all_settled (into_iter_items l.initial.rest)

abbrev pub decreases-loop-unit : goal.decreases-loop-unit
decreases-loop-unit l = length (into_iter_items l.rest)
