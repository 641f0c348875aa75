use Rattle.std.proofs.Common.{◌≡◌, ◌+◌}
use Rattle.flash_base.specs.ByteMaps.{has_each}
use Rattle.unit_model.specs.Regions.{filled}
use Rattle.vehicle_file.proofs.memory.has_each.Given as goal

abbrev pub invariant-loop-left : goal.invariant-loop-left
invariant-loop-left l = record {
  ends : l.next + l.left ≡ l.at + l.size;
  same : has_each l.next l.left (filled l.regions) ≡ has_each l.at l.size (filled l.regions);
}

abbrev pub decreases-loop-left : goal.decreases-loop-left
decreases-loop-left l = l.left
