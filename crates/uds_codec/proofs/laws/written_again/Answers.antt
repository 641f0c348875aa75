use Rattle.uds_codec.proofs.Found.{found, written}
use Rattle.uds_codec.proofs.laws.written_again.Goals as goal

pub returns : goal.returns
returns c = λ bytes r are e. written bytes r are (found bytes r e)
