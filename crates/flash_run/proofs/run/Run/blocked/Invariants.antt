use Rattle.std.proofs.Common.{◌≡◌, ℕ, ◌<◌, false, slice_index}
use Rattle.bay_core.specs.declared.event.Event.TheVariants.{Ended}
use Rattle.flash_plan.specs.declared.outcome.Outcome.TheVariants.{Blocked}
use Rattle.flash_run.specs.Run.{may_take}
use Rattle.flash_run.proofs.run.Run.blocked.Given as goal

abbrev pub invariant-loop-i : goal.invariant-loop-i
invariant-loop-i l = (k : ℕ) → k < l.i → may_take l.self (Ended l.unit (Blocked (slice_index l.after k))) ≡ false
