use Rattle.std.proofs.Common.{◌≡◌, drop}
use Rattle.ecu_mem.specs.Bounds.{IsCheck}
use Rattle.flash_base.specs.Lists.{Each}
use Rattle.session_image.specs.Checks.{all_checked}
use Rattle.session_image.proofs.Joins.{joined}
use Rattle.session_image.proofs.checks.all_checked.Given as goal

abbrev pub invariant-loop-check : goal.invariant-loop-check
invariant-loop-check l = record {
  are : all_checked l.pieces l.checks ≡ joined l.all (all_checked l.pieces (drop l.check-index l.checks));
  rest : Each IsCheck (drop l.check-index l.checks);
}
