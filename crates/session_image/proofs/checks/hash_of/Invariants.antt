use Rattle.std.proofs.Common.{◌-◌, ◌≤◌}
use Rattle.sha2.specs.Hashers.{Holds256}
use Rattle.session_image.specs.Checks.{check_bytes}
use Rattle.session_image.proofs.checks.hash_of.Given as goal

abbrev pub invariant-loop-done : goal.invariant-loop-done
invariant-loop-done l = record {
  within : l.done ≤ l.size;
  step : 1 ≤ l.step;
  fed : Holds256 l.hasher (check_bytes l.pieces l.fill l.from l.done);
}

abbrev pub decreases-loop-done : goal.decreases-loop-done
decreases-loop-done l = l.size - l.done
