use Rattle.std.proofs.Common.{◌≡◌, ◌+◌, ◌*◌, ◌≤◌, length, take}
use Rattle.journal_model.specs.Records.{segment_counts, total}
use Rattle.journal_steps.specs.Tables.{starts_of}
use Rattle.flash_journal.proofs.layout.Layout.new_at.Given as goal

abbrev pub invariant-loop-unit : goal.invariant-loop-unit
invariant-loop-unit l = record {
  counted : l.slots ≡ 2 * length l.plan + total (segment_counts (take l.unit l.plan));
  few : l.slots ≤ 2 * length l.plan + 256 * l.unit;
  counts : l.segments.items ≡ segment_counts (take l.unit l.plan);
  places : l.starts.items ≡ starts_of (2 * length l.plan) (segment_counts (take l.unit l.plan));
}
