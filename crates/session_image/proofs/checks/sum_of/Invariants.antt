use Rattle.std.proofs.Common.{◌≡◌, ◌-◌, ◌%◌, ◌≤◌, sum}
use Rattle.session_image.specs.Checks.{check_bytes}
use Rattle.session_image.proofs.checks.sum_of.Given as goal

abbrev pub invariant-loop-done : goal.invariant-loop-done
invariant-loop-done l = record {
  within : l.done ≤ l.size;
  step : 1 ≤ l.step;
  summed : l.all ≡ sum (check_bytes l.pieces l.fill l.from l.done) % 65536;
}

abbrev pub decreases-loop-done : goal.decreases-loop-done
decreases-loop-done l = l.size - l.done
