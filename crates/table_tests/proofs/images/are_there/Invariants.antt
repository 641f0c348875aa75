use Rattle.std.proofs.Common.{◌≤◌, drop, length}
use Rattle.std.specs.Prelude.{IsSome}
use Rattle.flash_base.specs.Files.{first_of}
use Rattle.flash_base.specs.Lists.{Each}
use Rattle.table_tests.proofs.images.are_there.Given as goal

abbrev pub invariant-loop-left : goal.invariant-loop-left
invariant-loop-left l = record {
  within : l.left ≤ length l.fn.names;
  there : Each (λ name. IsSome (first_of name l.fn.files)) (drop l.left l.fn.names);
}

abbrev pub decreases-loop-left : goal.decreases-loop-left
decreases-loop-left l = l.left
