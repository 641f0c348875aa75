use Rattle.std.proofs.Common.{◌≡◌, ◌+◌, ◌-◌, ◌≤◌, ◌++◌, true}
use Rattle.flash_base.specs.ByteMaps.{has_each, bytes_of}
use Rattle.unit_model.proofs.memory.Memory.read.Given as goal

abbrev pub invariant-loop-left : goal.invariant-loop-left
invariant-loop-left l = record {
  from : l.at ≤ l.next;
  ends : l.next + l.left ≡ l.at + l.size;
  there : has_each l.next l.left l.self ≡ true;
  said : l.out.items ≡ l.initial.out.items ++ bytes_of l.at (l.next - l.at) l.self;
}

abbrev pub decreases-loop-left : goal.decreases-loop-left
decreases-loop-left l = l.left
