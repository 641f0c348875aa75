use Rattle.std.proofs.Common.{◌≡◌, ◌∙◌, ap, arith}
use Rattle.journal_model.specs.Records.{total}
use Rattle.flash_journal.proofs.Counts.{counts_all, total_more}
use Rattle.flash_journal.proofs.layout.mark_slots.Goals as goal

pub loop-unit-preserved : goal.loop-unit-preserved
loop-unit-preserved c = record {
  counted = omega (arith, total_more c.args.plan.now c.loop-unit.unit (omega arith));
  few = omega arith;
}

pub returns-clause-slots : goal.returns-clause-slots
returns-clause-slots c = c.loop-unit.invariant.counted ∙ ap total (counts_all c.args.plan.now c.loop-unit.unit (omega arith))
