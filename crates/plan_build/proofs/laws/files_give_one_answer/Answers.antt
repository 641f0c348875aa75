use Rattle.plan_build.proofs.Only.{one_built}
use Rattle.plan_build.proofs.laws.files_give_one_answer.Goals as goal

pub returns : goal.returns
returns c = one_built
