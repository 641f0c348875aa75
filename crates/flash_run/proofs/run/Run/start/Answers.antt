use Rattle.std.proofs.Common.{ℕ, ◌*◌, sym, ap, ◌∙◌}
use Rattle.flash_run.specs.Notes.{empty_notes}
use Rattle.flash_run.proofs.Taking.{started}
use Rattle.flash_run.proofs.run.Run.start.Goals as goal

pub invariant_of-result : goal.invariant_of-result
invariant_of-result c = started c.args.plan.now c.of.result.value c.args.rules.now c.args.found c.in_ok-new.field-0 c.in_ok-start.field-0 (sym c.of.ensures) c.is_accepted.ensures (c.in_ok-new.ensures ∙ ap (λ (n : ℕ). empty_notes (4 * n)) c.units.ensures) c.in_ok-start.ensures
