use Rattle.std.proofs.Common.{ℕ, ◌<◌, None}
use Rattle.flash_run.specs.Ending.{EndsNow}
use Rattle.flash_run.proofs.run.Run.next_end.Given as goal

abbrev pub invariant-loop-unit : goal.invariant-loop-unit
invariant-loop-unit l = (n : ℕ) → n < l.unit → EndsNow l.self n None
