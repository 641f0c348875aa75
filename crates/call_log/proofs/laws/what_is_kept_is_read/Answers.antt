use Rattle.call_log.proofs.Keeping.{is_kept}
use Rattle.call_log.proofs.laws.what_is_kept_is_read.Goals as goal

pub returns : goal.returns
returns c = is_kept
