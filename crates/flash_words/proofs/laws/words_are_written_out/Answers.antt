use Rattle.flash_words.proofs.Spelt.{written_out}
use Rattle.flash_words.proofs.laws.words_are_written_out.Goals as goal

pub returns : goal.returns
returns c = written_out
