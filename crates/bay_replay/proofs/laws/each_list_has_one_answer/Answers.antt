use Rattle.bay_replay.proofs.OneAnswer.{one_answer}
use Rattle.bay_replay.proofs.laws.each_list_has_one_answer.Goals as goal

pub returns : goal.returns
returns c = one_answer
