use Rattle.std.proofs.Common.{◌≡◌, ◌-◌, ◌^◌, ◌<◌, ◌⊎◌, true, length}
use Rattle.flash_bay.specs.Calls.{Grows}
use Rattle.flash_run.specs.Run.{is_open}
use Rattle.flash_workers.proofs.alone.bring_to_end.Given as goal

abbrev pub invariant-loop-alloc : goal.invariant-loop-alloc
invariant-loop-alloc g l = Grows l.initial.bay l.bay × ((is_open l.bay.run l.unit ≡ true) ⊎ (length l.initial.bay.run.events < length l.bay.run.events))

abbrev pub decreases-loop-alloc : goal.decreases-loop-alloc
decreases-loop-alloc g l = 2 ^ 63 - length l.bay.run.events
