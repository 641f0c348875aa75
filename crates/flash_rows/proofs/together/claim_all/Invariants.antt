use Rattle.std.proofs.Common.{◌≡◌}
use Rattle.flash_rows.proofs.together.claim_all.Given as goal

abbrev pub invariant-loop-unit : goal.invariant-loop-unit
invariant-loop-unit g l = l.bay.run.plan ≡ l.initial.bay.run.plan
