use Rattle.std.proofs.Common.{◌≡◌, true}
use Rattle.journal_model.specs.Records.{stands_at}
use Rattle.flash_journal.proofs.spelling.stands.Given as goal

abbrev pub invariant-loop-i : goal.invariant-loop-i
invariant-loop-i l = stands_at l.bytes l.at l.i l.text ≡ true
