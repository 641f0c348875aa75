use Rattle.std.proofs.Common.{◌≡◌, ◌++◌, take, flat_map}
use Rattle.run_report.specs.Checking.{checksum_line}
use Rattle.run_report.proofs.checking.put_checksums.Given as goal

abbrev pub invariant-loop-check : goal.invariant-loop-check
invariant-loop-check l = l.out ≡ l.initial.out ++ flat_map (checksum_line l.task) (take l.check-index l.checks)
