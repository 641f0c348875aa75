use Rattle.std.proofs.Common.{◌≡◌, ◌++◌, take, flat_map}
use Rattle.run_report.specs.Imaging.{task_lines}
use Rattle.run_report.proofs.imaging.put_tasks.Given as goal

abbrev pub invariant-loop-task : goal.invariant-loop-task
invariant-loop-task l = l.out ≡ l.initial.out ++ flat_map (task_lines l.n) (take l.task-index l.tasks)
