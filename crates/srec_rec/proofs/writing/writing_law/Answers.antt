use Rattle.srec_rec.proofs.Round.{round, one_text}
use Rattle.srec_rec.proofs.writing.writing_law.Goals as goal

pub returns-clause-one : goal.returns-clause-one
returns-clause-one c = one_text

pub returns-clause-read : goal.returns-clause-read
returns-clause-read c = round
