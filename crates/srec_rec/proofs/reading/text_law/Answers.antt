use Rattle.srec_rec.proofs.Text.{whole_text, read_whole}
use Rattle.srec_rec.proofs.Refused.{refused_text, refuses_text}
use Rattle.srec_rec.proofs.reading.text_law.Goals as goal

pub returns-clause-read : goal.returns-clause-read
returns-clause-read c = whole_text

pub returns-clause-is : goal.returns-clause-is
returns-clause-is c = read_whole

pub returns-clause-refused : goal.returns-clause-refused
returns-clause-refused c = refused_text

pub returns-clause-refuses : goal.returns-clause-refuses
returns-clause-refuses c = refuses_text
