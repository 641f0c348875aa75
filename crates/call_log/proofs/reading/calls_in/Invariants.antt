use Rattle.std.proofs.Common.{◌≡◌, ◌-◌, ◌≤◌, ◌++◌, drop, length}
use Rattle.call_log.specs.Log.{calls_in}
use Rattle.call_log.proofs.reading.calls_in.Given as goal

-- the calls so far and those of what is left are all
abbrev pub invariant-loop-i : goal.invariant-loop-i
invariant-loop-i l = record {
  within : l.i ≤ length l.frames;
  calls : calls_in (drop l.from l.frames) ≡ l.calls ++ calls_in (drop l.i l.frames);
}

abbrev pub decreases-loop-i : goal.decreases-loop-i
decreases-loop-i l = length l.frames - l.i
