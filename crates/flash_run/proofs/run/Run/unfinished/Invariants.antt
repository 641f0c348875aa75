use Rattle.std.proofs.Common.{◌≡◌, ℕ, ◌<◌, false}
use Rattle.flash_run.specs.Run.{is_open}
use Rattle.flash_run.proofs.run.Run.unfinished.Given as goal

abbrev pub invariant-loop-unit : goal.invariant-loop-unit
invariant-loop-unit l = (n : ℕ) → n < l.unit → is_open l.self n ≡ false
