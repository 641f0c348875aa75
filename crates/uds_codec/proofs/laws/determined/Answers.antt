use Rattle.uds_codec.proofs.Found as found
use Rattle.uds_codec.proofs.laws.determined.Goals as goal

pub returns : goal.returns
returns c = record { one_meaning = found.one_meaning; one_spelling = found.one_spelling }
