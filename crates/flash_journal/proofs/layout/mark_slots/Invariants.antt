use Rattle.std.proofs.Common.{◌≡◌, ◌*◌, ◌≤◌, take}
use Rattle.journal_model.specs.Records.{segment_counts, total}
use Rattle.flash_journal.proofs.layout.mark_slots.Given as goal

abbrev pub invariant-loop-unit : goal.invariant-loop-unit
invariant-loop-unit l = record {
  counted : l.slots ≡ total (segment_counts (take l.unit l.plan));
  few : l.slots ≤ 256 * l.unit;
}
