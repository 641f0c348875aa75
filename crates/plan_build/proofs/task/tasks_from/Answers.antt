use Rattle.std.proofs.lemmas.List.{take_rest}
use Rattle.plan_build.proofs.task.tasks_from.Goals as goal

pub returns : goal.returns
returns c = take_rest c.args.tasks.now c.args.n
