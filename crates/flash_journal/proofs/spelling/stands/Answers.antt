use Rattle.std.proofs.Common.{◌+◌, length, sym}
use Rattle.std.specs.Prelude.{slice_index, ◌==◌}
use Rattle.std.proofs.lemmas.Bool.{ne_eqb}
use Rattle.journal_steps.proofs.Reading.{not_below}
use Rattle.flash_journal.proofs.spelling.stands.Goals as goal

pub returns-then-bytes-at : goal.returns-then-bytes-at
returns-then-bytes-at c = sym (not_below (length c.args.text.now) (λ i. slice_index c.args.bytes.now (c.args.at + i) == slice_index c.args.text.now i) c.loop-i.i c.loop-i-test.true (ne_eqb _ _ c.if-bytes-at.true))
