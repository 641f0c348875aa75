use Rattle.flash_journal.proofs.Looks.{stands_taken}
use Rattle.flash_journal.proofs.verdict.digest_of.Goals as goal

pub returns : goal.returns
returns c = stands_taken c.args.bytes.now _ c.copy_from_slice.ensures.after
