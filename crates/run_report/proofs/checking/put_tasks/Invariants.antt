use Rattle.std.proofs.Common.{◌≡◌, ◌++◌, take, flat_map}
use Rattle.run_report.specs.Checking.{checksum_lines}
use Rattle.run_report.proofs.checking.put_tasks.Given as goal

abbrev pub invariant-loop-task : goal.invariant-loop-task
invariant-loop-task l = l.out ≡ l.initial.out ++ flat_map (checksum_lines l.n l.name) (take l.task-index l.tasks)
